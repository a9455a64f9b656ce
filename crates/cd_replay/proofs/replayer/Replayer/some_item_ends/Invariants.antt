use Rattle.std.proofs.Common.{◌≤◌, ◌-◌, length}
use Rattle.cd_replay.specs.Ends.{ItemEnds}
use Rattle.cd_replay.specs.Replayed.{replayed}
use Rattle.cd_replay.proofs.Searching.{NoneBelow}
use Rattle.cd_replay.proofs.replayer.Replayer.some_item_ends.Given as goal

abbrev pub invariant-loop-item : goal.invariant-loop-item
invariant-loop-item l = record {
  within : l.place ≤ length l.self.state.pending.items;
  none : NoneBelow (ItemEnds l.order (replayed l.self) l.verdict) l.self.state.pending.items l.place;
}

abbrev pub decreases-loop-item : goal.decreases-loop-item
decreases-loop-item l = length l.self.state.pending.items - l.place
