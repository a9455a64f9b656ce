use Rattle.std.proofs.Common.{◌≡◌, ◌≤◌, ◌<◌, length}
use Rattle.cd_unify.specs.Bindings.{values_in, room_in, trail_in}
use Rattle.cd_subsume.proofs.partners.fewest.Given as goal

abbrev pub invariant-loop-i : goal.invariant-loop-i
invariant-loop-i l = record {
  above : l.from ≤ l.best;
  inside : l.best < length l.goals;
  covers : room_in l.bindings ≡ room_in l.initial.bindings;
  values : values_in l.bindings ≡ values_in l.initial.bindings;
  trail : trail_in l.bindings ≡ trail_in l.initial.bindings;
}
