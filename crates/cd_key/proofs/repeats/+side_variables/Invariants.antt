use Rattle.std.proofs.Common.{◌≡◌, ◌-◌, ◌^◌, min, sum_by, take}
use Rattle.cd_term.specs.Terms.{size_of}
use Rattle.cd_kbo.specs.Sides.{term_of}
use Rattle.cd_key.specs.Repeats.{variable_count}
use Rattle.cd_key.proofs.repeats.+side_variables.Given as goal

abbrev pub invariant-loop-arg : goal.invariant-loop-arg
invariant-loop-arg l = l.total ≡ min (sum_by variable_count (take l.arg-index l.args)) (2 ^ 64 - 1)

abbrev pub decreases-side_variables : goal.decreases-side_variables
decreases-side_variables l = size_of (term_of l.s)
