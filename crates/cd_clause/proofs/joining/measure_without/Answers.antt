use Rattle.std.proofs.Common.{refl, arith}
use Rattle.std.proofs.lemmas.Grind.{common_steps}
use Rattle.cd_term.specs.Terms.{applied}
use Rattle.cd_clause.proofs.JoinLemmas.{first_outside, second_outside, both_measured, without_changed}
use Rattle.cd_clause.proofs.joining.measure_without.Goals as goal

pub returns-in_default : goal.returns-in_default
returns-in_default c =
    first_outside _ _ _ _ _ c.in_default.ensures
    (without_changed (applied c.args.s.now) c.args.literals.now _ _ c.args.skip (grind (arith, common_steps)) refl)

pub returns-in_default-measure_literals : goal.returns-in_default-measure_literals
returns-in_default-measure_literals c =
    second_outside _ _ _ _ _ _ c.in-Some.ensures c.in_default-measure_literals.ensures
    (without_changed (applied c.args.s.now) c.args.literals.now _ _ c.args.skip (grind (arith, common_steps)) (grind (arith, common_steps)))

pub returns : goal.returns
returns c =
    both_measured _ _ _ _ _ _ _ c.in-Some.ensures c.in-Some-measure_literals.ensures
    (without_changed (applied c.args.s.now) c.args.literals.now _ _ c.args.skip (grind (arith, common_steps)) (grind (arith, common_steps)))
