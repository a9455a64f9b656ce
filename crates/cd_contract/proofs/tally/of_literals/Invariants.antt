use Rattle.std.proofs.Common.{sum_by, take}
use Rattle.cd_contract.specs.Tallies.{signed_count, IsTally}
use Rattle.cd_contract.proofs.tally.of_literals.Given as goal

abbrev pub invariant-loop-l : goal.invariant-loop-l
invariant-loop-l l = IsTally (λ k. sum_by (signed_count l.sign k) (take l.l-index l.l-items)) l.counts
