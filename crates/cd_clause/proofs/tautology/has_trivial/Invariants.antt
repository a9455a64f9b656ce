use Rattle.std.proofs.Common.{drop}
use Rattle.cd_clause.specs.Clauses.{IsTrivial}
use Rattle.cd_list.specs.Lists.{Among}
use Rattle.cd_clause.proofs.tautology.has_trivial.Given as goal

abbrev pub invariant-loop-literal : goal.invariant-loop-literal
invariant-loop-literal l = Among IsTrivial l.literals → Among IsTrivial (drop l.literal-index l.literals)
