use Rattle.std.proofs.Common.{sum_by, take}
use Rattle.cd_contract.specs.Tallies.{count_in, IsTally}
use Rattle.cd_contract.proofs.tally.of_several.Given as goal

abbrev pub invariant-loop-term : goal.invariant-loop-term
invariant-loop-term l = IsTally (λ k. sum_by (count_in k) (take l.term-index l.terms)) l.counts
