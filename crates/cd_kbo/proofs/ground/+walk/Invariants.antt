use Rattle.std.proofs.Common.{take}
use Rattle.cd_term.specs.Terms.{size_of}
use Rattle.cd_kbo.specs.Sides.{term_of}
use Rattle.cd_kbo.proofs.PassLemmas.{SoFar}
use Rattle.cd_kbo.proofs.ground.+walk.Given as goal

abbrev pub invariant-loop-i : goal.invariant-loop-i
invariant-loop-i l = SoFar l.order (take l.i l.args) (take l.i l.others) l.answer l.left l.right

abbrev pub decreases-walk : goal.decreases-walk
decreases-walk l = size_of (term_of l.s)
