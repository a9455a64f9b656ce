use Rattle.std.proofs.Common.{vec_len}
use Rattle.cd_mailbox.proofs.Joining.{Merging}
use Rattle.cd_mailbox.proofs.closing.join_rows.Given as goal

abbrev pub invariant-loop-seat : goal.invariant-loop-seat
invariant-loop-seat g l = Merging l.fn.boxes l.fn.all.items l.fn.seats.items l.all.items l.seats.items

abbrev pub decreases-loop-seat : goal.decreases-loop-seat
decreases-loop-seat g l = vec_len l.seats
