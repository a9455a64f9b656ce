use Rattle.std.proofs.Common.{◌≡◌, map}
use Rattle.std.specs.List.{AllByRecursion as Each}
use Rattle.cd_acts.specs.View.{local_of}
use Rattle.cd_peer.specs.Plain.{plain}
use Rattle.cd_peer.specs.Whole.{IsWhole}
use Rattle.cd_world.specs.Worlds.{locals_of}
use Rattle.cd_top.proofs.running.states_of.Given as goal

abbrev pub invariant-loop-peer : goal.invariant-loop-peer
invariant-loop-peer l = record {
  locals : map local_of l.states.items ≡ locals_of l.yielded;
  whole : Each (IsWhole plain l.problem) l.states.items;
}
