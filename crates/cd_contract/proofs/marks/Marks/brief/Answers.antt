use Rattle.std.proofs.Common.{◌%◌, arith, ◌∙◌}
use Rattle.std.proofs.Math.ListN.{length-set}
use Rattle.cd_contract.proofs.Marking.{brief_next}
use Rattle.cd_contract.proofs.marks.Marks.brief.Goals as goal

pub loop-i-preserved : goal.loop-i-preserved
loop-i-preserved c = record {
  as_long = length-set c.loop-i.words (c.loop-i.i % 8) _ ∙ c.loop-i.invariant.as_long;
  marked = brief_next c.args.self.now.words c.loop-i.words c.loop-i.i (omega (arith, c.loop-i.invariant.as_long)) c.loop-i.invariant.marked;
}

pub returns : goal.returns
returns c = λ k on. (on.0, c.loop-i.invariant.marked _ _ (omega (arith, on.0)) on.1)
