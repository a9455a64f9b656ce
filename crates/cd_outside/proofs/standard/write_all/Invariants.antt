use Rattle.std.proofs.Common.{◌≡◌, length}
use Rattle.cd_outside.specs.Sent.{Sent}
use Rattle.cd_outside.proofs.standard.write_all.Given as goal

abbrev pub invariant-loop-rest : goal.invariant-loop-rest
invariant-loop-rest g l = record { sent : Sent (g.W.Writer.taken l.initial.writer) (g.W.Writer.taken l.writer) l.piece l.rest; none_failed : g.W.Writer.failed l.writer ≡ g.W.Writer.failed l.initial.writer }

abbrev pub decreases-loop-rest : goal.decreases-loop-rest
decreases-loop-rest g l = length l.rest
