use Rattle.std.proofs.Common.{◌∙◌, sym, arith, refl}
use Rattle.cd_term.specs.declared.Term.TheVariants.{Var}
use Rattle.cd_term.specs.Terms.{applied, substituted, value_of}
use Rattle.cd_term.proofs.MarkLemmas.{maps_more, maps_all}
use Rattle.cd_term.proofs.Substitutions.{substituted-identity}
use Rattle.cd_term.proofs.Comparing.{tells_of, tells_turned, value_there, value_missing, apps_same, tells_unchanged}
use Rattle.cd_term.proofs.instances.+is_applied.Goals as goal

pub loop-i-preserved : goal.loop-i-preserved
loop-i-preserved t c = (
  c.loop-i.invariant.0,
  maps_more (applied c.args.s.now) (substituted Var) _ _ _ _ _ c.loop-i-test.true (omega (arith, c.loop-i.invariant.0, c.loop-i-test.true))
      c.index-args-i.is c.index-others-i.is c.loop-i.invariant.1 (c.if-not-is_applied.ensures.0 refl ∙ sym (substituted-identity c.index-others-i.result)),
)

pub returns-in-Some : goal.returns-in-Some
returns-in-Some t c = tells_of _ _ _ _ _ (value_there c.args.s.now c.in-Var-default.k c.args.t.now _ c.in-Var-default.is-0 c.in-Some.ensures) refl c.equals.ensures

pub returns-in-None : goal.returns-in-None
returns-in-None t c = tells_of _ _ _ _ _ (value_missing c.args.s.now c.in-Var-default.k c.args.t.now c.in-Var-default.is-0 c.in-None.ensures ∙ c.in-Var-default.is-0) refl (tells_turned _ _ _ c.is_variable.ensures)

pub returns-after-loop-i : goal.returns-after-loop-i
returns-after-loop-i t c =
    tells_unchanged _ _ _ (apps_same (value_of c.args.s.now) Var _ _ _ _ _ _ _ _ c.in-App-App.is-0 c.in-App-App.is-1 c.as_slice-args.ensures c.as_slice-others.ensures c.if-f-g.false
    (maps_all (applied c.args.s.now) (substituted Var) _ _ _ c.loop-i-test.false (omega (arith, c.loop-i.invariant.0, c.loop-i-test.false)) c.loop-i.invariant.1))
