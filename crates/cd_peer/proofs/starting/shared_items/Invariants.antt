use Rattle.std.proofs.Common.{◌≡◌, take}
use Rattle.cd_peer.specs.Peers.{AreShared}
use Rattle.cd_peer.proofs.starting.shared_items.Given as goal

abbrev pub invariant-loop-input : goal.invariant-loop-input
invariant-loop-input l = record {
  items : AreShared l.me l.peers (take l.input-index l.inputs) l.items.items;
  counted : l.index ≡ l.input-index;
}
