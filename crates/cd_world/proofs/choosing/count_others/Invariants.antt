use Rattle.std.proofs.Common.{◌≡◌, ◌≤◌, ◌+◌, drop, false, length}
use Rattle.cd_world.specs.Schedule.{deliveries_from}
use Rattle.cd_world.proofs.choosing.count_others.Given as goal

abbrev pub invariant-loop-letter : goal.invariant-loop-letter
invariant-loop-letter l = record {
  so_far : l.count + length (deliveries_from false l.letter-index (drop l.letter-index l.letters)) ≡ length (deliveries_from false 0 l.letters);
  few : l.count ≤ l.letter-index;
}
