use Rattle.std.proofs.Common.{take}
use Rattle.cd_kbo.specs.Blocks.{IsNext}
use Rattle.cd_key.specs.Repeats.{occurrences_in}
use Rattle.cd_key.proofs.repeats.next_in_clause.Given as goal

abbrev pub invariant-loop-literal : goal.invariant-loop-literal
invariant-loop-literal l = IsNext l.from (λ k. occurrences_in k (take l.literal-index l.literal-items)) l.found
