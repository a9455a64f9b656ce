use Rattle.std.proofs.Common.{length}
use Rattle.cd_read.proofs.Literals.{AreGiven}
use Rattle.cd_read.proofs.numbering.clause_of.Given as goal

abbrev pub invariant-loop-literal : goal.invariant-loop-literal
invariant-loop-literal l = AreGiven l.initial.symbols l.initial.rest l.rest l.clause l.symbols l.variables

abbrev pub decreases-loop-literal : goal.decreases-loop-literal
decreases-loop-literal l = length l.rest
