use Rattle.std.proofs.Common.{◌∙◌, sym, arith, refl}
use Rattle.cd_term.specs.declared.Term.TheVariants.{Var}
use Rattle.cd_term.specs.Terms.{substituted, applied}
use Rattle.cd_term.proofs.MarkLemmas.{maps_more, maps_all}
use Rattle.cd_term.proofs.Substitutions.{substituted-identity}
use Rattle.cd_term.proofs.Comparing.{all_unchanged}
use Rattle.cd_term.proofs.instances.are_applied.Goals as goal

pub loop-i-preserved : goal.loop-i-preserved
loop-i-preserved c = (
  c.loop-i.invariant.0,
  maps_more (applied c.args.s.now) (substituted Var) _ _ _ _ _ c.loop-i-test.true (omega (arith, c.loop-i.invariant.0, c.loop-i-test.true))
      c.index-ts-i.is c.index-us-i.is c.loop-i.invariant.1 (c.if-not-is_applied.ensures.0 refl ∙ sym (substituted-identity c.index-us-i.result)),
)

pub returns : goal.returns
returns c = (
  (λ _. maps_all (applied c.args.s.now) (substituted Var) _ _ _ c.loop-i-test.false (omega (arith, c.loop-i.invariant.0, c.loop-i-test.false)) c.loop-i.invariant.1 ∙ all_unchanged c.args.us.now),
  (λ _. refl),
)
