use Rattle.cd_clause.proofs.AlikeLemmas.{Remains}
use Rattle.cd_clause.proofs.tidiness.beside_kept.Given as goal

abbrev pub invariant-loop-i : goal.invariant-loop-i
invariant-loop-i l = Remains l.n l.literals l.others l.i l.j
