use Rattle.std.proofs.Common.{◌≡◌, ℕ, ◌<◌, length, Some, slice_get}
use Rattle.cd_verdict.specs.Known.{fresh, IsRest}
use Rattle.cd_verdict.proofs.word.Bell.new.Given as goal

abbrev pub invariant-loop-number : goal.invariant-loop-number
invariant-loop-number l = record {
  rest : IsRest l.table.shared.table_id l.table.shared.key l.number l.rest;
  count : length l.seats ≡ l.number;
  each : (p : ℕ) → p < l.number → slice_get l.seats p ≡ Some (fresh l.table.shared.table_id l.table.shared.key p);
}
