use Rattle.std.proofs.Common.{◌≡◌, ◌-◌, ◌^◌, min, ◌+◌, sum_by, take}
use Rattle.cd_term.specs.Terms.{size_of}
use Rattle.cd_term.proofs.sizes.+size.Given as goal

abbrev pub invariant-loop-arg : goal.invariant-loop-arg
invariant-loop-arg l = l.total ≡ min (1 + sum_by size_of (take l.arg-index l.arg-items)) (2 ^ 64 - 1)
