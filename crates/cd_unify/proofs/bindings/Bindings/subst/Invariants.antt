use Rattle.std.proofs.Common.{◌≡◌, map, take, unwrap_or}
use Rattle.std.specs.Option.{option_copied}
use Rattle.cd_term.specs.declared.Term.TheVariants.{Var}
use Rattle.cd_unify.proofs.bindings.Bindings.subst.Given as goal

abbrev pub invariant-loop-value : goal.invariant-loop-value
invariant-loop-value l = l.terms ≡ map (λ o. unwrap_or o (Var 0)) (map option_copied (take l.value-index l.value-items))
