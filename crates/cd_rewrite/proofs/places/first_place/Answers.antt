use Rattle.std.proofs.Common.{arith, ap, sum_by, ◌∙◌}
use Rattle.cd_clause.specs.Clauses.{literal_size}
use Rattle.cd_rewrite.proofs.FirstPlaces.{no_literal_next, found_at, count_literals}
use Rattle.cd_rewrite.proofs.places.first_place.Goals as goal

pub overflow_cast-result : goal.overflow_cast-result
overflow_cast-result c =
    omega (arith, count_literals c.as_slice-literal-items.result.now, ap (sum_by literal_size) c.as_slice-literal-items.ensures, c.requires.small)

pub returns-in-Some : goal.returns-in-Some
returns-in-Some c =
    found_at c.args.order.now _ c.args.eq.now.variables c.args.c.now.literals c.as_slice-literal-items.result.now _ c.literal-item.result _ _ _ _ c.as_slice-literal-items.ensures
    c.loop-j-test.true c.literal-item.is c.loop-j.invariant.none c.loop-j.invariant.unchanged (rw c.in-Some.is at c.in_ok-lowering.ensures)

pub loop-j-preserved : goal.loop-j-preserved
loop-j-preserved c = let none = rw c.in_default.is at c.in_ok-lowering.ensures in record {
  none = no_literal_next _ c.as_slice-literal-items.result.now _ c.literal-item.result c.loop-j-test.true c.literal-item.is c.loop-j.invariant.none none.0;
  unchanged = none.1 ∙ c.loop-j.invariant.unchanged;
}
