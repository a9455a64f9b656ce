use Rattle.cd_rewrite.specs.Walks.{FallsFrom}
use Rattle.cd_rewrite.proofs.FirstPlaces.{no_literal_start, no_literal_next, no_literal_all}
use Rattle.cd_rewrite.proofs.Idle.{some_literal}
use Rattle.cd_rewrite.proofs.falling.falls_in_clause.Goals as goal

pub loop-literal-init : goal.loop-literal-init
loop-literal-init c = no_literal_start (FallsFrom c.args.order.now c.args.from.now c.args.to.now) _

pub returns-then-found : goal.returns-then-found
returns-then-found c = (
  λ _. some_literal (FallsFrom c.args.order.now c.args.from.now c.args.to.now) c.args.c.now.literals _ _ c.literal-item.result c.as_slice-literal-items.ensures
      c.loop-literal-test.true c.literal-item.is (c.in_ok-found.ensures.0 c.if-found.true),
  λ e. absurd (cc),
)

pub loop-literal-preserved : goal.loop-literal-preserved
loop-literal-preserved c =
    no_literal_next (FallsFrom c.args.order.now c.args.from.now c.args.to.now) _ _ c.literal-item.result c.loop-literal-test.true c.literal-item.is c.loop-literal.invariant
    (c.in_ok-found.ensures.1 c.if-found.false)

pub returns : goal.returns
returns c = (
  λ e. absurd (cc),
  λ _. no_literal_all (FallsFrom c.args.order.now c.args.from.now c.args.to.now) c.args.c.now.literals _ _ c.as_slice-literal-items.ensures c.loop-literal-test.false
      c.loop-literal.invariant,
)
