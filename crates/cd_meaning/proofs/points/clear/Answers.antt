use Rattle.std.proofs.Common.{arith}
use Rattle.std.proofs.lemmas.Grind.{common_steps}
use Rattle.cd_meaning.proofs.Ranks.{zero_more, zero_all}
use Rattle.cd_meaning.proofs.points.clear.Goals as goal

pub loop-i-preserved : goal.loop-i-preserved
loop-i-preserved c = record {
  same = grind (arith, common_steps);
  zeros = zero_more c.loop-i.point c.loop-i.i (omega (arith, c.loop-i-test.true, c.loop-i.invariant.same)) c.loop-i.invariant.zeros;
}

pub returns-clause-first : goal.returns-clause-first
returns-clause-first c = zero_all c.loop-i.point c.loop-i.i (omega (arith, c.loop-i-test.false, c.loop-i.invariant.same)) c.loop-i.invariant.zeros
