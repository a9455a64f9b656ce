use Rattle.cd_clause.proofs.TidiedLemmas.{ArePassed}
use Rattle.cd_clause.proofs.tidiness.is_tidied_to.Given as goal

abbrev pub invariant-loop-n : goal.invariant-loop-n
invariant-loop-n l = ArePassed l.literals l.others l.n
