use Rattle.std.proofs.Common.{refl, arith}
use Rattle.std.proofs.lemmas.Grind.{common_steps}
use Rattle.cd_clause.proofs.JoinLemmas.{first_outside, second_outside, both_measured, joined_read}
use Rattle.cd_clause.proofs.joining.measure_joined.Goals as goal

pub returns-in_default : goal.returns-in_default
returns-in_default c =
    first_outside _ _ _ _ _ c.in_default.ensures
    (joined_read c.args.a.now c.args.b.now c.args.skip_a c.args.skip_b c.args.s.now _ _ _ c.as_slice.ensures refl refl)

pub returns-in_default-measure_without : goal.returns-in_default-measure_without
returns-in_default-measure_without c =
    second_outside _ _ _ _ _ _ c.in-Some.ensures c.in_default-measure_without.ensures
    (joined_read c.args.a.now c.args.b.now c.args.skip_a c.args.skip_b c.args.s.now _ _ _ c.as_slice.ensures c.as_slice-2.ensures (grind (arith, common_steps)))

pub returns : goal.returns
returns c =
    both_measured _ _ _ _ _ _ _ c.in-Some.ensures c.in-Some-measure_without.ensures
    (joined_read c.args.a.now c.args.b.now c.args.skip_a c.args.skip_b c.args.s.now _ _ _ c.as_slice.ensures c.as_slice-2.ensures (grind (arith, common_steps)))
