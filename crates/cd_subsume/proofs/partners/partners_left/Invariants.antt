use Rattle.std.proofs.Common.{◌≡◌, ◌≤◌}
use Rattle.cd_unify.specs.Bindings.{values_in, room_in, trail_in}
use Rattle.cd_subsume.proofs.partners.partners_left.Given as goal

abbrev pub invariant-loop-place : goal.invariant-loop-place
invariant-loop-place l = record {
  few : l.count ≤ l.place;
  covers : room_in l.bindings ≡ room_in l.initial.bindings;
  values : values_in l.bindings ≡ values_in l.initial.bindings;
  trail : trail_in l.bindings ≡ trail_in l.initial.bindings;
}
