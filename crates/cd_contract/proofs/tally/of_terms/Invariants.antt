use Rattle.std.proofs.Common.{map, take}
use Rattle.cd_term.specs.Terms.{greatest}
use Rattle.cd_clause.specs.Clauses.{clause_terms}
use Rattle.cd_contract.specs.Tallies.{count_in, IsTally}
use Rattle.cd_contract.proofs.tally.of_terms.Given as goal

abbrev pub invariant-loop-l : goal.invariant-loop-l
invariant-loop-l l = IsTally (λ k. greatest (map (count_in k) (clause_terms (take l.l-index l.l-items)))) l.most
