use Rattle.cd_mailbox.proofs.Joining.{Emptying}
use Rattle.cd_mailbox.proofs.closing.empty_all.Given as goal

abbrev pub invariant-loop-q : goal.invariant-loop-q
invariant-loop-q g l = Emptying g.L.Addressed.sender g.L.Addressed.receiver l.fn.boxes l.fn.seats.items l.q l.seats.items l.left
