use Rattle.std.proofs.Common.{arith}
use Rattle.cd_peer.proofs.Shares.{share_all, share_step}
use Rattle.cd_peer.proofs.starting.shared_items.Goals as goal

pub loop-input-preserved : goal.loop-input-preserved
loop-input-preserved c = record {
  items = share_step c.args.me c.args.peers c.args.inputs.now c.loop-input.input-index c.loop-input.index c.input-item.result c.loop-input-test.true c.input-item.is c.loop-input.invariant.counted
      c.loop-input.items.items c.add_shared.new.items.items c.loop-input.invariant.items c.in_ok-add_shared.ensures;
  counted = omega (arith, c.loop-input.invariant.counted);
}

pub returns : goal.returns
returns c = share_all c.args.me c.args.peers c.args.inputs.now c.loop-input.input-index c.loop-input.items.items c.loop-input-test.false c.loop-input.invariant.items
