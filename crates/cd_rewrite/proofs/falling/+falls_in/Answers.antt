use Rattle.std.proofs.Common.{arith}
use Rattle.cd_rewrite.specs.Walks.{FallsFrom}
use Rattle.cd_rewrite.proofs.FirstPaths.{none_start, none_next, none_in, none_in_variable, argument_below}
use Rattle.cd_rewrite.proofs.Idle.{falls_here, some_below}
use Rattle.cd_rewrite.proofs.falling.+falls_in.Goals as goal

pub returns-in_default : goal.returns-in_default
returns-in_default t c = (
  λ e. absurd (cc),
  λ _. none_in_variable (FallsFrom c.args.order.now c.args.from.now c.args.to.now) c.args.t.now _ c.in_default.is (λ p. p.0 _ c.in_default.is),
)

pub returns-then-here : goal.returns-then-here
returns-then-here t c = (
  λ _. falls_here c.args.order.now c.args.from.now c.args.to.now c.args.t.now _ _ c.in-App.is (c.in_ok-here.ensures.0 c.if-here.true),
  λ e. absurd (cc),
)

pub falls_in-requires : goal.falls_in-requires
falls_in-requires t c =
    let below = argument_below c.args.t.now _ _ c.as_slice-arg-items.result.now _ c.arg-item.result c.in-App.is c.as_slice-arg-items.ensures c.loop-arg-test.true c.arg-item.is in (
      omega (arith, below),
      (omega (arith, below, c.requires.small), c.requires.below),
    )

pub loop-arg-init : goal.loop-arg-init
loop-arg-init t c = none_start (FallsFrom c.args.order.now c.args.from.now c.args.to.now) _

pub returns-then-below : goal.returns-then-below
returns-then-below t c = (
  λ _. some_below (FallsFrom c.args.order.now c.args.from.now c.args.to.now) c.args.t.now _ _ c.as_slice-arg-items.result.now _ c.arg-item.result c.in-App.is
      c.as_slice-arg-items.ensures c.loop-arg-test.true c.arg-item.is (c.in_ok-below.ensures.0 c.if-below.true),
  λ e. absurd (cc),
)

pub loop-arg-preserved : goal.loop-arg-preserved
loop-arg-preserved t c =
    none_next (FallsFrom c.args.order.now c.args.from.now c.args.to.now) _ _ c.arg-item.result c.loop-arg-test.true c.arg-item.is c.loop-arg.invariant
    (c.in_ok-below.ensures.1 c.if-below.false)

pub returns : goal.returns
returns t c = (
  λ e. absurd (cc),
  λ _. none_in (FallsFrom c.args.order.now c.args.from.now c.args.to.now) c.args.t.now _ _ _ _ c.in-App.is c.as_slice-arg-items.ensures c.loop-arg-test.false
      (λ p. c.in_ok-here.ensures.1 c.if-here.false p.1.0 p.1.1) c.loop-arg.invariant,
)
