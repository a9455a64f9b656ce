use Rattle.std.proofs.Common.{◌≡◌}
use Rattle.aquarius_threads.proofs.mailboxes.send_all.Given as goal

abbrev pub invariant-loop-number : goal.invariant-loop-number
invariant-loop-number g l = (l.pass.boxes ≡ l.boxes) × (l.pass.peer ≡ l.from)
