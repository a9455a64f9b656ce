use Rattle.std.proofs.Common.{◌≡◌, drop}
use Rattle.std.specs.Prelude.{slice_get}
use Rattle.cd_world.specs.Schedule.{turns_from}
use Rattle.cd_world.specs.Worlds.{locals_of}
use Rattle.cd_world.proofs.choosing.turn_at.Given as goal

abbrev pub invariant-loop-peer : goal.invariant-loop-peer
invariant-loop-peer l = record {
  so_far : slice_get (turns_from l.tokens l.peer-index (locals_of (drop l.peer-index l.peers))) l.left ≡ slice_get (turns_from l.tokens 0 (locals_of l.peers)) l.k;
  counted : l.q ≡ l.peer-index;
}
