use Rattle.std.proofs.Common.{◌≡◌, length}
use Rattle.cd_unify.specs.Bindings.{room_in}
use Rattle.cd_subsume.specs.Search.{Searches, left_of}
use Rattle.cd_subsume.proofs.search.picked_values.Given as goal

abbrev pub invariant-loop-search : goal.invariant-loop-search
invariant-loop-search l = record {
  covers : room_in l.search.bindings ≡ room_in l.fn.bindings;
  searching : Searches l.ls l.ms l.search;
}

abbrev pub decreases-loop-search : goal.decreases-loop-search
decreases-loop-search l = left_of (length l.ls) (length l.ms) l.search.chosen.items l.search.next
