use Rattle.cd_contract.specs.Marks.{Marked, Keeps}
use Rattle.cd_contract.proofs.Meeting.{MeetsBefore}
use Rattle.cd_contract.proofs.seeking.mark_terms.Given as goal

abbrev pub invariant-loop-t : goal.invariant-loop-t
invariant-loop-t l = record {
  kept : Keeps l.fn.marks l.marks;
  met : MeetsBefore (Marked l.marks) l.ts l.t-index;
}
