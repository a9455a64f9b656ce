use Rattle.cd_clause.proofs.AlikeLemmas.{IsRest}
use Rattle.cd_clause.proofs.tidiness.are_alike.Given as goal

abbrev pub invariant-loop-i : goal.invariant-loop-i
invariant-loop-i l = IsRest l.k l.n l.literals l.others l.i l.j
