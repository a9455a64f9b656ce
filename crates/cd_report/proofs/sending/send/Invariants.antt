use Rattle.std.proofs.Common.{◌≤◌, length}
use Rattle.cd_report.proofs.Lines.{SentLines}
use Rattle.cd_report.proofs.sending.send.Given as goal

abbrev pub invariant-loop-rest : goal.invariant-loop-rest
invariant-loop-rest g l = record {
  sent : SentLines (g.K.Sink.taken l.initial.sink) (g.K.Sink.taken l.sink) (g.K.Sink.pieces l.initial.sink) (g.K.Sink.pieces l.sink) l.text l.rest;
  later : g.K.Sink.faults l.initial.sink ≤ g.K.Sink.faults l.sink;
}

abbrev pub decreases-loop-rest : goal.decreases-loop-rest
decreases-loop-rest g l = length l.rest
