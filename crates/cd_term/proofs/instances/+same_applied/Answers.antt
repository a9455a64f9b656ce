use Rattle.std.proofs.Common.{ap, ◌∙◌, sym, arith, refl}
use Rattle.std.specs.Option.{option_copied}
use Rattle.std.proofs.lemmas.Bool.{false≢true}
use Rattle.cd_term.specs.Terms.{applied, value_of}
use Rattle.cd_term.proofs.MarkLemmas.{maps_length, maps_at, maps_more, maps_all}
use Rattle.cd_term.proofs.Comparing.{tells_of, tells_turned, value_there, value_missing, apps_refused, apps_same, never_variable}
use Rattle.cd_term.proofs.instances.+same_applied.Goals as goal

pub returns-then-args-others : goal.returns-then-args-others
returns-then-args-others t c =
    apps_refused (value_of c.args.s.now) (value_of c.args.r.now) _ _ _ _ _ _ _ _ c.in-App-App.is-0 c.in-App-App.is-1 c.as_slice-args.ensures c.as_slice-others.ensures
    (λ e. c.if-args-others.true (maps_length (applied c.args.s.now) (applied c.args.r.now) _ _ e))

pub returns-then-not-same_applied : goal.returns-then-not-same_applied
returns-then-not-same_applied t c =
    apps_refused (value_of c.args.s.now) (value_of c.args.r.now) _ _ _ _ _ _ _ _ c.in-App-App.is-0 c.in-App-App.is-1 c.as_slice-args.ensures c.as_slice-others.ensures
    (λ e. false≢true (c.if-not-same_applied.ensures.1
    (maps_at (applied c.args.s.now) (applied c.args.r.now) _ _ _ _ _ c.loop-i-test.true (omega (arith, c.loop-i.invariant.0, c.loop-i-test.true))
    c.index-args-i.is c.index-others-i.is e)))

pub loop-i-preserved : goal.loop-i-preserved
loop-i-preserved t c = (
  c.loop-i.invariant.0,
  maps_more (applied c.args.s.now) (applied c.args.r.now) _ _ _ _ _ c.loop-i-test.true (omega (arith, c.loop-i.invariant.0, c.loop-i-test.true))
      c.index-args-i.is c.index-others-i.is c.loop-i.invariant.1 (c.if-not-same_applied.ensures.0 refl),
)

pub returns-in-Some : goal.returns-in-Some
returns-in-Some t c = tells_turned _ _ _ (tells_of _ _ _ _ _ refl (value_there c.args.s.now c.in-Var-default.k c.args.t.now _ c.in-Var-default.is-0 c.in-Some.ensures) c.is_applied.ensures)

pub returns-in-None : goal.returns-in-None
returns-in-None t c = tells_turned _ _ _ (tells_of _ _ _ _ _ refl (value_missing c.args.s.now c.in-Var-default.k c.args.t.now c.in-Var-default.is-0 c.in-None.ensures) c.is_applied-in-None.ensures)

pub returns-in-Some-value_at : goal.returns-in-Some-value_at
returns-in-Some-value_at t c = tells_of _ _ _ _ _ refl (value_there c.args.r.now c.in-App-Var.m c.args.u.now _ c.in-App-Var.is-1 c.in-Some-value_at.ensures) c.is_applied-in-Some-value_at.ensures

pub returns-in-None-value_at : goal.returns-in-None-value_at
returns-in-None-value_at t c =
    tells_of _ _ _ _ _ refl (value_missing c.args.r.now c.in-App-Var.m c.args.u.now c.in-App-Var.is-1
    (sym (ap option_copied c.in-None-value_at.is) ∙ c.value_at-in-App-Var.ensures))
    (never_variable (value_of c.args.s.now) _ c.in-App-Var.m _ _ _ c.in-App-Var.is-0 c.in-App-Var.is-1)

pub returns-after-loop-i : goal.returns-after-loop-i
returns-after-loop-i t c =
    apps_same (value_of c.args.s.now) (value_of c.args.r.now) _ _ _ _ _ _ _ _ c.in-App-App.is-0 c.in-App-App.is-1 c.as_slice-args.ensures c.as_slice-others.ensures c.if-f-g.false
    (maps_all (applied c.args.s.now) (applied c.args.r.now) _ _ _ c.loop-i-test.false (omega (arith, c.loop-i.invariant.0, c.loop-i-test.false)) c.loop-i.invariant.1)
