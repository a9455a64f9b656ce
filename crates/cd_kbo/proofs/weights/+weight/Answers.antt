use Rattle.std.proofs.Common.{ap, arith}
use Rattle.cd_kbo.specs.Sides.{term_of}
use Rattle.cd_kbo.specs.Kbo.{weight_of}
use Rattle.cd_kbo.proofs.Arguments.{side_below, grown, weighed_all}
use Rattle.cd_kbo.proofs.weights.+weight.Goals as goal

pub weight-requires : goal.weight-requires
weight-requires t c = (
  omega (
    arith,
    side_below (term_of c.args.s) (term_of c.of.result) c.arg-item.result c.in-Symbol.f c.in-Symbol.args.now c.loop-arg.arg-index
        (ap term_of c.in-Symbol.is) c.loop-arg-test.true c.arg-item.is c.of.ensures,
  ),
  tt,
)

pub loop-arg-preserved : goal.loop-arg-preserved
loop-arg-preserved t c = grown (weight_of c.args.order.now) c.in-Symbol.args.now _ _ _ _ _ _ c.loop-arg-test.true c.arg-item.is c.of.ensures
    c.loop-arg.invariant c.weight.ensures c.saturating_add-total.ensures

pub returns-after-loop-arg : goal.returns-after-loop-arg
returns-after-loop-arg t c = weighed_all c.args.order.now _ c.in-Symbol.f c.in-Symbol.args.now _ _ _ _ (ap term_of c.in-Symbol.is) c.loop-arg-test.false
    c.loop-arg.invariant c.symbol_weight.ensures c.saturating_add.ensures
