use Rattle.std.proofs.Common.{refl}
use Rattle.cd_rewrite.specs.Walks.{FallsFrom}
use Rattle.cd_rewrite.proofs.FirstPaths.{none_start, none_next}
use Rattle.cd_rewrite.proofs.FirstPlaces.{none_among}
use Rattle.cd_rewrite.proofs.Idle.{some_among}
use Rattle.cd_rewrite.proofs.falling.falls_among.Goals as goal

pub loop-term-init : goal.loop-term-init
loop-term-init c = none_start (FallsFrom c.args.order.now c.args.from.now c.args.to.now) c.args.terms.now

pub returns-then-found : goal.returns-then-found
returns-then-found c = (
  λ _. some_among (FallsFrom c.args.order.now c.args.from.now c.args.to.now) c.args.terms.now _ c.term-item.result c.loop-term-test.true c.term-item.is
      (c.in_ok-found.ensures.0 c.if-found.true),
  λ e. absurd (cc),
)

pub loop-term-preserved : goal.loop-term-preserved
loop-term-preserved c =
    none_next (FallsFrom c.args.order.now c.args.from.now c.args.to.now) c.args.terms.now _ c.term-item.result c.loop-term-test.true c.term-item.is c.loop-term.invariant
    (c.in_ok-found.ensures.1 c.if-found.false)

pub returns : goal.returns
returns c = (
  λ e. absurd (cc),
  λ _. none_among (FallsFrom c.args.order.now c.args.from.now c.args.to.now) c.args.terms.now c.args.terms.now _ refl c.loop-term-test.false c.loop-term.invariant,
)
