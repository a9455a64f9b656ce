use Rattle.cd_contract.specs.Tallies.{symbol_count}
use Rattle.cd_contract.proofs.Counting.{sum_behind, whole_term}
use Rattle.cd_contract.proofs.tally.+of_term.Goals as goal

pub loop-arg-preserved : goal.loop-arg-preserved
loop-arg-preserved t c = λ g first.
    sum_behind g c.as_slice-arg-items.result.now c.loop-arg.arg-index c.arg-item.result c.loop-arg.counts c.of_term.result c.plus-counts.result c.loop-arg-test.true c.arg-item.is
    c.plus-counts.ensures (c.loop-arg.invariant g first) c.of_term.ensures

pub returns-after-loop-arg : goal.returns-after-loop-arg
returns-after-loop-arg t c =
    whole_term c.args.t.now c.in-App.f _ c.as_slice-arg-items.result.now c.loop-arg.arg-index c.loop-arg.counts c.in-App.is c.as_slice-arg-items.ensures c.loop-arg-test.false
    (c.loop-arg.invariant (λ k. symbol_count k c.in-App.f) c.symbol-counts.ensures)
