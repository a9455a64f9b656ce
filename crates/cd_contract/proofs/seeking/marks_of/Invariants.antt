use Rattle.cd_contract.specs.Marks.{Marked}
use Rattle.cd_contract.proofs.Meeting.{WholeBefore}
use Rattle.cd_contract.proofs.seeking.marks_of.Given as goal

abbrev pub invariant-loop-l : goal.invariant-loop-l
invariant-loop-l l = record {
  star : Marked l.marks 0;
  each : WholeBefore (Marked l.marks) l.l-items l.l-index;
}
