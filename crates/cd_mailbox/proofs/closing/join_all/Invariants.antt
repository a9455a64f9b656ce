use Rattle.std.proofs.Common.{length}
use Rattle.cd_mailbox.proofs.Joining.{Joining}
use Rattle.cd_mailbox.proofs.closing.join_all.Given as goal

abbrev pub invariant-loop-pass : goal.invariant-loop-pass
invariant-loop-pass g l = Joining l.boxes l.fn.passes l.passes l.all.items

abbrev pub decreases-loop-pass : goal.decreases-loop-pass
decreases-loop-pass g l = length l.passes
