use Rattle.cd_term.specs.Terms.{size_of}
use Rattle.cd_contract.specs.Marks.{Marked, Keeps}
use Rattle.cd_contract.proofs.Meeting.{MeetsBefore}
use Rattle.cd_contract.proofs.seeking.+mark_term.Given as goal

abbrev pub invariant-loop-arg : goal.invariant-loop-arg
invariant-loop-arg l = record {
  kept : Keeps l.initial.marks l.marks;
  met : MeetsBefore (Marked l.marks) l.args l.arg-index;
}

abbrev pub decreases-mark_term : goal.decreases-mark_term
decreases-mark_term l = size_of l.t.now
