use Rattle.std.proofs.Common.{◌≡◌}
use Rattle.aquarius_threads.proofs.mailboxes.take_all.Given as goal

abbrev pub invariant-loop : goal.invariant-loop
invariant-loop g l = l.pass.boxes ≡ l.boxes
