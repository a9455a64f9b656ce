use Rattle.std.proofs.Common.{◌≡◌, length}
use Rattle.cd_mailbox.specs.Opening.{RestsAre}
use Rattle.cd_mailbox.proofs.opening.open_all.Given as goal

abbrev pub invariant-loop-owner : goal.invariant-loop-owner
invariant-loop-owner g l = record {
  rests : RestsAre l.boxes l.peers 0 l.rests.items;
  count : length l.boxes ≡ l.owner;
}
