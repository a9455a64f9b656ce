use Rattle.std.proofs.Common.{map, take}
use Rattle.cd_term.specs.Terms.{greatest}
use Rattle.cd_contract.specs.Tallies.{count_in, IsTally}
use Rattle.cd_contract.proofs.tally.most_of.Given as goal

abbrev pub invariant-loop-term : goal.invariant-loop-term
invariant-loop-term l = IsTally (λ k. greatest (map (count_in k) (take l.term-index l.terms))) l.most
