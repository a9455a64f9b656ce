use Rattle.cd_clause.proofs.TidyMeasures.{Begins}
use Rattle.cd_clause.proofs.tidying.measure_kept.Given as goal

abbrev pub invariant-loop-i : goal.invariant-loop-i
invariant-loop-i l = Begins l.literals l.i l.total
