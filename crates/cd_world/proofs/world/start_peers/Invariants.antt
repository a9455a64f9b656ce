use Rattle.std.proofs.Common.{◌≡◌, length}
use Rattle.cd_world.specs.Worlds.{ArePeers}
use Rattle.cd_world.proofs.world.start_peers.Given as goal

abbrev pub invariant-loop-me : goal.invariant-loop-me
invariant-loop-me l = record {
  many : length l.all.items ≡ l.me;
  each : ArePeers l.problem l.peers l.policy l.limits l.all.items;
}
