use Rattle.cd_build.proofs.Building.{IsBuilt}
use Rattle.cd_build.proofs.derive.lines_of.Given as goal

abbrev pub invariant-loop-i : goal.invariant-loop-i
invariant-loop-i l = IsBuilt l.problem l.known l.marks l.i l.numbers l.lines
