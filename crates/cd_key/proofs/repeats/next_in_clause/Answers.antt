use Rattle.std.proofs.Common.{List, subst}
use Rattle.cd_clause.specs.declared.Literal.{Literal}
use Rattle.cd_kbo.specs.Blocks.{IsNext}
use Rattle.cd_key.specs.Repeats.{occurrences_in}
use Rattle.cd_key.proofs.RepeatLemmas.{next_in_more, next_in_all}
use Rattle.cd_key.proofs.repeats.next_in_clause.Goals as goal

pub loop-literal-preserved : goal.loop-literal-preserved
loop-literal-preserved c = next_in_more c.args.from c.as_slice-literal-items.result.now c.loop-literal.literal-index c.literal-item.result
    c.loop-literal.found c.next_in_atom.result _ c.loop-literal-test.true c.literal-item.is c.loop-literal.invariant c.next_in_atom.ensures c.least_variable-found.ensures

pub returns : goal.returns
returns c = subst (λ (ls : List Literal). IsNext c.args.from (λ k. occurrences_in k ls) c.loop-literal.found) c.as_slice-literal-items.ensures
    (next_in_all c.args.from c.as_slice-literal-items.result.now c.loop-literal.literal-index c.loop-literal.found c.loop-literal-test.false c.loop-literal.invariant)
