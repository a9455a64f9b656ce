use Rattle.std.proofs.Common.{ap, arith, refl, sum_by, ◌∙◌}
use Rattle.cd_term.specs.Terms.{size_of}
use Rattle.cd_term.proofs.Equations.{size_of-App}
use Rattle.cd_rewrite.proofs.Turns.{count_size, no_variable}
use Rattle.cd_rewrite.proofs.FirstPaths.{none_in, none_in_variable, none_next, found_here, found_below, argument_below}
use Rattle.cd_rewrite.proofs.walks.+first_in.Goals as goal

pub returns-in_default : goal.returns-in_default
returns-in_default t c = (none_in_variable _ c.args.t.now _ c.in_default.is (no_variable c.args.order.now _ c.args.t.now _ c.in_default.is), refl)

pub returns-in-Some : goal.returns-in-Some
returns-in-Some t c = found_here c.args.order.now _ c.args.eq.now.variables c.args.t.now _ _ _ (rw c.in-Some.is at c.in_ok-lowering.ensures)

pub first_in-requires : goal.first_in-requires
first_in-requires t c =
    let below = argument_below c.args.t.now _ _ c.as_slice-arg-items.result.now _ c.arg-item.result c.in-App.is c.as_slice-arg-items.ensures c.loop-i-test.true c.arg-item.is in (
      omega (arith, below),
      (omega (arith, below, c.requires.small), c.requires.ready),
    )

pub overflow_cast-i : goal.overflow_cast-i
overflow_cast-i t c = omega (
  arith,
  count_size c.as_slice-arg-items.result.now,
  ap (sum_by size_of) c.as_slice-arg-items.ensures,
  ap size_of c.in-App.is,
  size_of-App c.in-App.field-0 c.in-App.args,
  c.requires.small,
)

pub returns-in-Some-2 : goal.returns-in-Some-2
returns-in-Some-2 t c =
    found_below c.args.order.now _ c.args.eq.now.variables c.args.t.now _ _ c.as_slice-arg-items.result.now _ c.arg-item.result _ _ _ _ _ _ c.in-App.is
    c.as_slice-arg-items.ensures c.loop-i-test.true c.arg-item.is (rw c.in_default-2.is at c.in_ok-lowering.ensures) c.loop-i.invariant.none c.loop-i.invariant.unchanged
    (rw c.in-Some-2.is at c.in_ok-lowering-2.ensures) c.in_ok-push.ensures.items

pub loop-i-preserved : goal.loop-i-preserved
loop-i-preserved t c = let none = rw c.in_default-3.is at c.in_ok-lowering-2.ensures in record {
  none = none_next _ c.as_slice-arg-items.result.now _ c.arg-item.result c.loop-i-test.true c.arg-item.is c.loop-i.invariant.none none.0;
  unchanged = none.1 ∙ c.loop-i.invariant.unchanged;
}

pub returns : goal.returns
returns t c = (
  none_in _ c.args.t.now _ _ c.as_slice-arg-items.result.now _ c.in-App.is c.as_slice-arg-items.ensures c.loop-i-test.false (rw c.in_default-2.is at c.in_ok-lowering.ensures)
      c.loop-i.invariant.none,
  c.loop-i.invariant.unchanged,
)
