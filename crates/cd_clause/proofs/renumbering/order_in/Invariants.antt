use Rattle.std.proofs.Common.{◌≡◌, [], take}
use Rattle.std.specs.List.{flat_map}
use Rattle.cd_term.specs.Terms.{variables_of, firsts_after}
use Rattle.cd_clause.specs.Clauses.{clause_terms}
use Rattle.cd_clause.proofs.renumbering.order_in.Given as goal

abbrev pub invariant-loop-literal : goal.invariant-loop-literal
invariant-loop-literal l = l.seen.keys ≡ firsts_after [] (flat_map variables_of (clause_terms (take l.literal-index l.literals)))
