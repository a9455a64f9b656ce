use Rattle.std.proofs.Common.{◌≡◌, map, take}
use Rattle.cd_term.specs.Terms.{bound_of, greatest}
use Rattle.cd_clause.specs.Clauses.{clause_terms}
use Rattle.cd_clause.proofs.sizes.variables.Given as goal

abbrev pub invariant-loop-literal : goal.invariant-loop-literal
invariant-loop-literal l = l.bound ≡ greatest (map bound_of (clause_terms (take l.literal-index l.literal-items)))
