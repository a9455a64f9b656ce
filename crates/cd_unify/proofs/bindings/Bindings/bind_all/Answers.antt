use Rattle.std.proofs.Common.{arith, refl}
use Rattle.cd_unify.proofs.MatchLemmas.{match_more, item_bound}
use Rattle.cd_unify.proofs.Trails.{trail_more}
use Rattle.cd_unify.proofs.Binding.{list_stuck, list_bound}
use Rattle.cd_unify.proofs.bindings.Bindings.bind_all.Goals as goal

pub returns-then-not-branch-clause-fits : goal.returns-then-not-branch-clause-fits
returns-then-not-branch-clause-fits c = λ covered.
    list_stuck _ _ _ _ _ _ _ _ _ c.loop-i-test.true (omega arith) c.index-general-i.is c.index-special-i.is (c.loop-i.invariant.fits covered)
    (c.in_ok-bind.ensures.fits (item_bound _ _ _ _ _ _ refl c.loop-i-test.true c.index-general-i.is covered c.loop-i.invariant.covers))
    c.if-not-branch.true

pub returns-then-not-branch-clause-noted : goal.returns-then-not-branch-clause-noted
returns-then-not-branch-clause-noted c = trail_more _ _ _ _ _ _ c.loop-i.invariant.noted c.in_ok-bind.ensures.noted

pub loop-i-preserved : goal.loop-i-preserved
loop-i-preserved c = record {
  covers = omega arith;
  fits = λ covered. match_more _ _ _ _ _ _ _ _ _ c.loop-i-test.true (omega arith) c.index-general-i.is c.index-special-i.is (c.loop-i.invariant.fits covered)
      (c.in_ok-bind.ensures.fits (item_bound _ _ _ _ _ _ refl c.loop-i-test.true c.index-general-i.is covered c.loop-i.invariant.covers))
      c.if-not-branch.false;
  noted = trail_more _ _ _ _ _ _ c.loop-i.invariant.noted c.in_ok-bind.ensures.noted;
}

pub returns-clause-fits : goal.returns-clause-fits
returns-clause-fits c = λ covered.
    list_bound _ _ _ _ _ c.loop-i-test.false (omega arith) (c.loop-i.invariant.fits covered)
