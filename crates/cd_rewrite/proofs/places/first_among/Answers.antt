use Rattle.std.proofs.Common.{arith, refl, ◌∙◌}
use Rattle.cd_rewrite.proofs.Turns.{count_size}
use Rattle.cd_rewrite.proofs.FirstPaths.{none_next}
use Rattle.cd_rewrite.proofs.FirstPlaces.{none_among, found_among}
use Rattle.cd_rewrite.proofs.places.first_among.Goals as goal

pub overflow_cast-i : goal.overflow_cast-i
overflow_cast-i c = omega (arith, count_size c.args.terms.now, c.requires.small)

pub returns-in-Some : goal.returns-in-Some
returns-in-Some c =
    found_among c.args.order.now _ c.args.eq.now.variables c.args.terms.now c.args.terms.now _ c.index-terms-i.result _ _ _ _ _ _ refl c.loop-i-test.true c.index-terms-i.is
    c.loop-i.invariant.none c.loop-i.invariant.unchanged (rw c.in-Some.is at c.in_ok-lowering.ensures) c.in_ok-push.ensures.items

pub loop-i-preserved : goal.loop-i-preserved
loop-i-preserved c = let none = rw c.in_default.is at c.in_ok-lowering.ensures in record {
  none = none_next _ c.args.terms.now _ c.index-terms-i.result c.loop-i-test.true c.index-terms-i.is c.loop-i.invariant.none none.0;
  unchanged = none.1 ∙ c.loop-i.invariant.unchanged;
}

pub returns : goal.returns
returns c = (none_among _ c.args.terms.now c.args.terms.now _ refl c.loop-i-test.false c.loop-i.invariant.none, c.loop-i.invariant.unchanged)
