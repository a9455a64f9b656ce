use Rattle.std.proofs.Common.{refl, arith}
use Rattle.cd_kbo.specs.Sides.{term_of}
use Rattle.cd_kbo.proofs.BlockLemmas.{refused, first_block, next_block, no_block}
use Rattle.cd_kbo.proofs.knuth_bendix.side_greater.Goals as goal

pub returns-then-not-block_greater : goal.returns-then-not-block_greater
returns-then-not-block_greater c = refused c.args.order.now (term_of c.args.s) (term_of c.args.t) 0 _ c.block_greater.ensures c.if-not-block_greater.true

pub loop-base-init : goal.loop-base-init
loop-base-init c = first_block c.args.order.now (term_of c.args.s) (term_of c.args.t) (c.block_greater.ensures.0 c.if-not-block_greater.false)

pub returns-then-not-block_greater-2 : goal.returns-then-not-block_greater-2
returns-then-not-block_greater-2 c = refused c.args.order.now (term_of c.args.s) (term_of c.args.t) _ _ c.block_greater-in-Some.ensures c.if-not-block_greater-2.true

pub loop-base-preserved : goal.loop-base-preserved
loop-base-preserved c = next_block c.args.order.now (term_of c.args.s) (term_of c.args.t) c.loop-base.from c.from-base.result
    (λ k le lt. c.in-Some.ensures.2 k le (omega (arith, lt, c.from-base.ensures)))
    c.loop-base.invariant (c.block_greater-in-Some.ensures.0 c.if-not-block_greater-2.false)

pub returns : goal.returns
returns c = (λ _. no_block c.args.order.now (term_of c.args.s) (term_of c.args.t) c.loop-base.from c.in_default.ensures c.loop-base.invariant, λ _. refl)
