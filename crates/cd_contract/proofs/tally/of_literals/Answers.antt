use Rattle.cd_contract.specs.Tallies.{signed_count}
use Rattle.cd_contract.proofs.Counting.{sum_next}
use Rattle.cd_contract.proofs.tally.of_literals.Goals as goal

pub loop-l-preserved : goal.loop-l-preserved
loop-l-preserved c =
    sum_next (signed_count c.args.sign) c.as_slice-l-items.result.now c.loop-l.l-index c.l-item.result c.loop-l.counts c.of_signed.result c.plus-counts.result c.loop-l-test.true
    c.l-item.is c.plus-counts.ensures c.loop-l.invariant c.of_signed.ensures
