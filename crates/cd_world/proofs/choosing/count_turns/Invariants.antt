use Rattle.std.proofs.Common.{◌≡◌, ◌≤◌, ◌+◌, drop, length}
use Rattle.cd_world.specs.Schedule.{turns_from}
use Rattle.cd_world.specs.Worlds.{locals_of}
use Rattle.cd_world.proofs.choosing.count_turns.Given as goal

abbrev pub invariant-loop-peer : goal.invariant-loop-peer
invariant-loop-peer l = record {
  so_far : l.count + length (turns_from l.tokens l.peer-index (locals_of (drop l.peer-index l.peers))) ≡ length (turns_from l.tokens 0 (locals_of l.peers));
  few : l.count ≤ l.peer-index;
}
