use Rattle.std.proofs.Common.{◌≡◌, drop, false}
use Rattle.std.specs.Prelude.{slice_get}
use Rattle.cd_world.specs.Schedule.{deliveries_from}
use Rattle.cd_world.proofs.choosing.other_at.Given as goal

abbrev pub invariant-loop-letter : goal.invariant-loop-letter
invariant-loop-letter l = record {
  so_far : slice_get (deliveries_from false l.letter-index (drop l.letter-index l.letters)) l.left ≡ slice_get (deliveries_from false 0 l.letters) l.k;
  counted : l.place ≡ l.letter-index;
}
