use Rattle.std.proofs.Common.{◌≡◌, ◌-◌, ◌^◌, min, sum_by, take}
use Rattle.cd_clause.specs.Clauses.{literal_size}
use Rattle.cd_clause.proofs.sizes.size.Given as goal

abbrev pub invariant-loop-literal : goal.invariant-loop-literal
invariant-loop-literal l = l.total ≡ min (sum_by literal_size (take l.literal-index l.literal-items)) (2 ^ 64 - 1)
