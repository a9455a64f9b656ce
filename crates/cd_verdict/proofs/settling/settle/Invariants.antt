use Rattle.std.proofs.Common.{length}
use Rattle.cd_verdict.proofs.JoinedSeats.{Joining}
use Rattle.cd_verdict.proofs.settling.settle.Given as goal

abbrev pub invariant-loop-seat : goal.invariant-loop-seat
invariant-loop-seat l = Joining l.bell l.fn.seats l.seats l.all

abbrev pub decreases-loop-seat : goal.decreases-loop-seat
decreases-loop-seat l = length l.seats
