use Rattle.std.proofs.Common.{ap, arith, ◌+◌}
use Rattle.cd_kbo.specs.Sides.{term_of}
use Rattle.cd_kbo.specs.Kbo.{weight_of, occurrences}
use Rattle.cd_kbo.proofs.Arguments.{side_below, grown, counted, weighed_all, counted_all}
use Rattle.cd_kbo.proofs.variables.+weigh.Goals as goal

pub weigh-requires : goal.weigh-requires
weigh-requires t c = (
  omega (
    arith,
    side_below (term_of c.args.s) (term_of c.of.result) c.arg-item.result c.in-Symbol.f c.in-Symbol.args.now c.loop-arg.arg-index
        (ap term_of c.in-Symbol.is) c.loop-arg-test.true c.arg-item.is c.of.ensures,
  ),
  tt,
)

pub loop-arg-preserved : goal.loop-arg-preserved
loop-arg-preserved t c = record {
  weighed = grown (weight_of c.args.order.now) c.in-Symbol.args.now _ _ _ _ _ _ c.loop-arg-test.true c.arg-item.is c.of.ensures
      c.loop-arg.invariant.weighed c.weigh.ensures.weight c.saturating_add-total.ensures;
  counted = λ k lt. counted (occurrences (c.args.base + k)) c.in-Symbol.args.now _ _ _ _ _ _ c.loop-arg-test.true c.arg-item.is c.of.ensures
      (c.loop-arg.invariant.counted k lt) (c.weigh.ensures.table k lt);
}

pub returns-after-loop-arg-clause-weight : goal.returns-after-loop-arg-clause-weight
returns-after-loop-arg-clause-weight t c = weighed_all c.args.order.now _ c.in-Symbol.f c.in-Symbol.args.now _ _ _ _ (ap term_of c.in-Symbol.is) c.loop-arg-test.false
    c.loop-arg.invariant.weighed c.symbol_weight.ensures c.saturating_add.ensures

pub returns-after-loop-arg-clause-table : goal.returns-after-loop-arg-clause-table
returns-after-loop-arg-clause-table t c = λ k lt. counted_all (c.args.base + k) _ c.in-Symbol.f c.in-Symbol.args.now _ _ _ (ap term_of c.in-Symbol.is) c.loop-arg-test.false
    (c.loop-arg.invariant.counted k lt)
