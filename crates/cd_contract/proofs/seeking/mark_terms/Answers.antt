use Rattle.cd_contract.specs.Marks.{Marked}
use Rattle.cd_contract.proofs.Meeting.{before_next, before_all}
use Rattle.cd_contract.proofs.seeking.mark_terms.Goals as goal

pub loop-t-preserved : goal.loop-t-preserved
loop-t-preserved c = record {
  kept = λ k on. c.mark_term.ensures.kept k (c.loop-t.invariant.kept k on);
  met = before_next (Marked c.loop-t.marks) (Marked c.mark_term.new.marks) c.args.ts.now c.loop-t.t-index c.t-item.result c.mark_term.ensures.kept c.loop-t-test.true c.t-item.is
      c.loop-t.invariant.met c.mark_term.ensures.met;
}

pub returns-clause-met : goal.returns-clause-met
returns-clause-met c = before_all (Marked c.loop-t.marks) c.args.ts.now c.loop-t.t-index c.loop-t-test.false c.loop-t.invariant.met
