use Rattle.std.proofs.Common.{◌≡◌, ◌-◌, ◌^◌, min, sum_by, take}
use Rattle.cd_term.specs.Terms.{size_of}
use Rattle.cd_kbo.specs.Sides.{term_of}
use Rattle.cd_kbo.specs.Kbo.{weight_of}
use Rattle.cd_kbo.proofs.weights.+weight.Given as goal

abbrev pub invariant-loop-arg : goal.invariant-loop-arg
invariant-loop-arg l = l.total ≡ min (sum_by (weight_of l.order) (take l.arg-index l.args)) (2 ^ 64 - 1)

abbrev pub decreases-weight : goal.decreases-weight
decreases-weight l = size_of (term_of l.s)
