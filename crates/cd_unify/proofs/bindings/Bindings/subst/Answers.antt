use Rattle.std.proofs.Common.{ap, length, map, take, unwrap_or, arith, ◌∙◌}
use Rattle.std.specs.Option.{option_copied}
use Rattle.cd_term.specs.declared.Term.TheVariants.{Var}
use Rattle.cd_unify.proofs.Binding.{given_terms}
use Rattle.cd_unify.proofs.bindings.Bindings.subst.Goals as goal

pub returns-clause-covers : goal.returns-clause-covers
returns-clause-covers c =
    (given_terms c.args.self.now.values.items c.loop-value.value-index c.loop-value.terms
    (omega (arith, ap length c.as_slice-value-items.ensures.value))
    (c.loop-value.invariant ∙ ap (λ xs. map (λ o. unwrap_or o (Var 0)) (map option_copied (take c.loop-value.value-index xs))) c.as_slice-value-items.ensures.value)).0

pub returns-clause-fits : goal.returns-clause-fits
returns-clause-fits c =
    (given_terms c.args.self.now.values.items c.loop-value.value-index c.loop-value.terms
    (omega (arith, ap length c.as_slice-value-items.ensures.value))
    (c.loop-value.invariant ∙ ap (λ xs. map (λ o. unwrap_or o (Var 0)) (map option_copied (take c.loop-value.value-index xs))) c.as_slice-value-items.ensures.value)).1
