use Rattle.std.proofs.Common.{arith}
use Rattle.cd_subsume.proofs.Becoming.{none_more, none_picked}
use Rattle.cd_subsume.proofs.partners.partners.Goals.{then-may_become, else-may_become+else-may_become-2}
use Rattle.cd_subsume.proofs.partners.partners.Goals as goal

pub loop-m-preserved : goal.loop-m-preserved
loop-m-preserved c = elim c.if-may_become.branch [
  | then-may_become w ↦ record {
    few = omega (arith, w.count-is);
    none = λ zero_. absurd (omega (arith, w.count-is, zero_));
  }
  | else-may_become+else-may_become-2 w ↦ record {
    few = omega (arith, w.count-is);
    none = λ zero_. none_more c.args.l.now c.args.ms.now c.loop-m.m-index c.m-item.result c.loop-m-test.true c.m-item.is
        (c.loop-m.invariant.none (omega (arith, w.count-is, zero_)))
        (c.may_become.ensures w.if-may_become.false) (w.may_become-else-may_become.ensures w.if-may_become-2.false);
  }
]

pub returns : goal.returns
returns c = λ zero_. none_picked c.args.l.now c.args.ms.now c.loop-m.m-index c.loop-m-test.false (c.loop-m.invariant.none zero_)
