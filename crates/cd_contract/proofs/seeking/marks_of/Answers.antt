use Rattle.cd_contract.specs.Marks.{Marked}
use Rattle.cd_contract.proofs.Meeting.{whole_next, whole_all}
use Rattle.cd_contract.proofs.seeking.marks_of.Goals as goal

pub loop-l-preserved : goal.loop-l-preserved
loop-l-preserved c = record {
  star = c.mark_literal.ensures.kept 0 c.loop-l.invariant.star;
  each = whole_next (Marked c.loop-l.marks) (Marked c.mark_literal.new.marks) c.as_slice-l-items.result.now c.loop-l.l-index c.l-item.result c.mark_literal.ensures.kept
      c.loop-l-test.true c.l-item.is c.loop-l.invariant.each c.mark_literal.ensures.met;
}

pub returns : goal.returns
returns c =
    whole_all (Marked c.loop-l.marks) c.args.c.now.literals c.as_slice-l-items.result.now c.loop-l.l-index c.as_slice-l-items.ensures c.loop-l-test.false c.loop-l.invariant.star
    c.loop-l.invariant.each
