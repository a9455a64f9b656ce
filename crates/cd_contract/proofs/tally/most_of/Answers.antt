use Rattle.cd_contract.proofs.Counting.{most_next}
use Rattle.cd_contract.proofs.tally.most_of.Goals as goal

pub loop-term-preserved : goal.loop-term-preserved
loop-term-preserved c =
    most_next c.args.terms.now c.loop-term.term-index c.term-item.result c.loop-term.most c.of_term.result c.most-most.result c.loop-term-test.true c.term-item.is
    c.most-most.ensures c.loop-term.invariant c.of_term.ensures
