use Rattle.std.proofs.Common.{length}
use Rattle.cd_subsume.proofs.Goals.{AreGoalsTo}
use Rattle.cd_subsume.proofs.partners.goals_of.Given as goal

abbrev pub invariant-loop-literal : goal.invariant-loop-literal
invariant-loop-literal l = AreGoalsTo (length l.ls) l.literal l.goals.items
