use Rattle.std.proofs.Common.{ap, arith}
use Rattle.cd_kbo.specs.Sides.{term_of}
use Rattle.cd_kbo.proofs.Arguments.{side_below, grown}
use Rattle.cd_key.specs.Repeats.{variable_count}
use Rattle.cd_key.proofs.RepeatLemmas.{count_all}
use Rattle.cd_key.proofs.repeats.+side_variables.Goals as goal

pub side_variables-requires : goal.side_variables-requires
side_variables-requires t c = (
  omega (
    arith,
    side_below (term_of c.args.s) (term_of c.of.result) c.arg-item.result c.in-Symbol.field-0 c.in-Symbol.args.now c.loop-arg.arg-index
        (ap term_of c.in-Symbol.is) c.loop-arg-test.true c.arg-item.is c.of.ensures,
  ),
  tt,
)

pub loop-arg-preserved : goal.loop-arg-preserved
loop-arg-preserved t c = grown variable_count c.in-Symbol.args.now _ _ _ _ _ _ c.loop-arg-test.true c.arg-item.is c.of.ensures
    c.loop-arg.invariant c.side_variables.ensures c.saturating_add-total.ensures

pub returns-after-loop-arg : goal.returns-after-loop-arg
returns-after-loop-arg t c = count_all _ c.in-Symbol.field-0 c.in-Symbol.args.now _ _ (ap term_of c.in-Symbol.is) c.loop-arg-test.false c.loop-arg.invariant
