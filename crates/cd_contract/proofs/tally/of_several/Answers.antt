use Rattle.cd_contract.specs.Tallies.{count_in}
use Rattle.cd_contract.proofs.Counting.{sum_next}
use Rattle.cd_contract.proofs.tally.of_several.Goals as goal

pub loop-term-preserved : goal.loop-term-preserved
loop-term-preserved c =
    sum_next count_in c.args.terms.now c.loop-term.term-index c.term-item.result c.loop-term.counts c.of_term.result c.plus-counts.result c.loop-term-test.true c.term-item.is
    c.plus-counts.ensures c.loop-term.invariant c.of_term.ensures
