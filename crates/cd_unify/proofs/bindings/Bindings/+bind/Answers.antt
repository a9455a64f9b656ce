use Rattle.std.proofs.Common.{ap, arith, length}
use Rattle.cd_unify.proofs.MatchLemmas.{match_new, match_value, match_more, symbol_stuck, symbol_matched, bound_within}
use Rattle.cd_unify.proofs.Trails.{trail_more}
use Rattle.cd_unify.proofs.Binding.{one_noted}
use Rattle.cd_unify.proofs.bindings.Bindings.+bind.Goals as goal

pub returns-then-not-branch-clause-fits : goal.returns-then-not-branch-clause-fits
returns-then-not-branch-clause-fits t c = λ covered.
    symbol_stuck _ _ _ _ _ _ _ _ _ _ _ _ _ _ _ c.in-App-App.is-0 c.in-App-App.is-1 c.as_slice-arg-items.ensures c.as_slice-others.ensures
    c.loop-i-test.true (omega (arith, ap length c.as_slice-others.ensures, ap length c.as_slice-arg-items.ensures))
    c.arg-item.is c.index-others-i.is (c.loop-i.invariant.fits covered)
    (c.in_ok-bind-in-App-App.ensures.fits (bound_within _ _ _ _ _ _ _ _ c.in-App-App.is-0 c.as_slice-arg-items.ensures c.loop-i-test.true c.arg-item.is covered c.loop-i.invariant.covers))
    c.if-not-branch.true

pub returns-then-not-branch-clause-noted : goal.returns-then-not-branch-clause-noted
returns-then-not-branch-clause-noted t c = trail_more _ _ _ _ _ _ c.loop-i.invariant.noted c.in_ok-bind-in-App-App.ensures.noted

pub loop-i-preserved : goal.loop-i-preserved
loop-i-preserved t c = record {
  covers = omega arith;
  fits = λ covered. match_more _ _ _ _ _ _ _ _ _
      c.loop-i-test.true (omega (arith, ap length c.as_slice-others.ensures, ap length c.as_slice-arg-items.ensures))
      c.arg-item.is c.index-others-i.is (c.loop-i.invariant.fits covered)
      (c.in_ok-bind-in-App-App.ensures.fits (bound_within _ _ _ _ _ _ _ _ c.in-App-App.is-0 c.as_slice-arg-items.ensures c.loop-i-test.true c.arg-item.is covered c.loop-i.invariant.covers))
      c.if-not-branch.false;
  noted = trail_more _ _ _ _ _ _ c.loop-i.invariant.noted c.in_ok-bind-in-App-App.ensures.noted;
}

pub returns-in_ok-push-in-None-clause-fits : goal.returns-in_ok-push-in-None-clause-fits
returns-in_ok-push-in-None-clause-fits t c = λ covered.
    match_new _ _ _ _ c.args.special c.in-Var-default.is-0 (omega arith) c.index.ensures c.in-None.is

pub returns-in_ok-push-in-None-clause-noted : goal.returns-in_ok-push-in-None-clause-noted
returns-in_ok-push-in-None-clause-noted t c =
    one_noted _ _ _ _ _ c.args.special (omega arith) c.index.ensures c.in-None.is c.in_ok-push-in-None.ensures.items

pub returns-in-Some-clause-fits : goal.returns-in-Some-clause-fits
returns-in-Some-clause-fits t c = λ covered.
    match_value _ _ _ _ _ c.args.special _ c.in-Var-default.is-0 (omega arith) c.index.ensures c.in-Some.is c.equals.ensures

pub returns-after-loop-i-clause-fits : goal.returns-after-loop-i-clause-fits
returns-after-loop-i-clause-fits t c = λ covered.
    symbol_matched _ _ _ _ _ _ _ _ _ _ _ c.in-App-App.is-0 c.in-App-App.is-1 c.if-f-g.false c.as_slice-arg-items.ensures c.as_slice-others.ensures
    c.loop-i-test.false (omega (arith, ap length c.as_slice-others.ensures, ap length c.as_slice-arg-items.ensures))
    (c.loop-i.invariant.fits covered)
