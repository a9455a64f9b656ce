use Rattle.std.proofs.Common.{length}
use Rattle.cd_mailbox.proofs.Dealing.{Dealing}
use Rattle.cd_mailbox.proofs.opening.pass_of.Given as goal

abbrev pub invariant-loop-q : goal.invariant-loop-q
invariant-loop-q g l = Dealing l.fn.boxes (length l.fn.boxes) l.number l.rests.items l.q l.seats.items
