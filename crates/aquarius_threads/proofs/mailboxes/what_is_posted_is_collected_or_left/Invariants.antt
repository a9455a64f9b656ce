use Rattle.std.proofs.Common.{◌≡◌, length}
use Rattle.cd_mailbox.specs.Life.{AreAll}
use Rattle.aquarius_threads.proofs.mailboxes.what_is_posted_is_collected_or_left.Given as goal

abbrev pub invariant-loop-from : goal.invariant-loop-from
invariant-loop-from g l = AreAll l.boxes l.passes × (length l.boxes ≡ 2)

abbrev pub invariant-loop-to : goal.invariant-loop-to
invariant-loop-to g l = AreAll l.boxes l.passes × (length l.boxes ≡ 2)
