use Rattle.std.proofs.Common.{ℕ, ◌+◌, sum_by, take}
use Rattle.cd_contract.specs.Tallies.{count_in, IsTally}
use Rattle.cd_contract.proofs.tally.+of_term.Given as goal

abbrev pub invariant-loop-arg : goal.invariant-loop-arg
invariant-loop-arg l = (g : ℕ → ℕ) → IsTally g l.initial.counts → IsTally (λ k. g k + sum_by (count_in k) (take l.arg-index l.arg-items)) l.counts
