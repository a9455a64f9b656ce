use Rattle.std.proofs.Common.{◌≡◌, ◌<◌, ℕ, length, Some, slice_get}
use Rattle.cd_mailbox.specs.Known.{fresh}
use Rattle.cd_mailbox.specs.Opening.{RestsAre}
use Rattle.cd_mailbox.proofs.opening.open_boxes.Given as goal

abbrev pub invariant-loop-number : goal.invariant-loop-number
invariant-loop-number g l = record {
  rests : RestsAre l.boxes (length l.boxes) l.number l.rests.items;
  count : length l.passes ≡ l.number;
  each : (p : ℕ) → p < l.number → slice_get l.passes p ≡ Some (fresh l.boxes p);
}
