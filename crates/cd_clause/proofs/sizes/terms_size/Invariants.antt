use Rattle.std.proofs.Common.{◌≡◌, ◌-◌, ◌^◌, min, ◌+◌, sum_by, take}
use Rattle.cd_term.specs.Terms.{size_of}
use Rattle.cd_clause.proofs.sizes.terms_size.Given as goal

abbrev pub invariant-loop-term : goal.invariant-loop-term
invariant-loop-term l = l.total ≡ min (1 + sum_by size_of (take l.term-index l.terms)) (2 ^ 64 - 1)
