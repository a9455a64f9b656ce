use Rattle.cd_contract.proofs.Columns.{needs_next}
use Rattle.cd_contract.proofs.contracting.needs_of.Goals as goal

pub loop-kept-preserved : goal.loop-kept-preserved
loop-kept-preserved c =
    needs_next c.args.order.now c.args.held.now c.loop-kept.kept-index c.kept-item.result c.loop-kept.needs.items c.push.new.self.items c.of.result c.loop-kept-test.true
    c.kept-item.is c.in_ok-push.ensures.items c.loop-kept.invariant c.of.ensures
