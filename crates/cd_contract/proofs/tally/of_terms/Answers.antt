use Rattle.cd_contract.proofs.Counting.{most_literal}
use Rattle.cd_contract.proofs.tally.of_terms.Goals as goal

pub loop-l-preserved : goal.loop-l-preserved
loop-l-preserved c =
    most_literal c.as_slice-l-items.result.now c.loop-l.l-index c.l-item.result c.loop-l.most c.most_of_atom.result c.most-most.result c.loop-l-test.true c.l-item.is
    c.most-most.ensures c.loop-l.invariant c.most_of_atom.ensures
