use Rattle.std.proofs.Common.{drop}
use Rattle.cd_clause.specs.Clauses.{AreOpposite}
use Rattle.cd_list.specs.Lists.{Among}
use Rattle.cd_clause.proofs.tautology.has_opposites.Given as goal

abbrev pub invariant-loop-literal : goal.invariant-loop-literal
invariant-loop-literal l = Among (λ m. Among (AreOpposite m) l.literals) l.literals →
    Among (λ m. Among (AreOpposite m) l.literals) (drop l.literal-index l.literals)
