use Rattle.std.proofs.Common.{subst, sym, ap, arith}
use Rattle.cd_term.specs.declared.Term.{Term}
use Rattle.cd_kbo.specs.Sides.{term_of}
use Rattle.cd_kbo.specs.Kbo.{occurrences}
use Rattle.cd_kbo.specs.Blocks.{IsNext}
use Rattle.cd_kbo.proofs.Arguments.{side_below}
use Rattle.cd_kbo.proofs.BlockLemmas.{next_more, next_all}
use Rattle.cd_kbo.proofs.variables.+next_variable.Goals as goal

pub next_variable-requires : goal.next_variable-requires
next_variable-requires t c = (
  omega (
    arith,
    side_below (term_of c.args.s) (term_of c.of.result) c.arg-item.result c.in-Symbol.field-0 c.in-Symbol.args.now c.loop-arg.arg-index
        (ap term_of c.in-Symbol.is) c.loop-arg-test.true c.arg-item.is c.of.ensures,
  ),
  tt,
)

pub loop-arg-preserved : goal.loop-arg-preserved
loop-arg-preserved t c = next_more c.args.from c.in-Symbol.args.now c.loop-arg.arg-index _ (term_of c.of.result) c.loop-arg.found c.next_variable.result _ c.loop-arg-test.true c.arg-item.is c.of.ensures
    c.loop-arg.invariant c.next_variable.ensures c.least_variable-found.ensures

pub returns-after-loop-arg : goal.returns-after-loop-arg
returns-after-loop-arg t c = subst (λ (u : Term). IsNext c.args.from (λ k. occurrences k u) c.loop-arg.found) (sym (ap term_of c.in-Symbol.is))
    (next_all c.args.from c.in-Symbol.field-0 c.in-Symbol.args.now c.loop-arg.arg-index c.loop-arg.found c.loop-arg-test.false c.loop-arg.invariant)
