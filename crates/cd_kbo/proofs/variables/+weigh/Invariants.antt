use Rattle.std.proofs.Common.{◌≡◌, ℕ, ◌+◌, ◌-◌, ◌^◌, ◌<◌, min, sum_by, take, get_or}
use Rattle.cd_term.specs.Terms.{size_of}
use Rattle.cd_kbo.specs.Sides.{term_of}
use Rattle.cd_kbo.specs.Kbo.{weight_of, occurrences}
use Rattle.cd_kbo.proofs.variables.+weigh.Given as goal

abbrev pub invariant-loop-arg : goal.invariant-loop-arg
invariant-loop-arg l = record {
  weighed : l.total ≡ min (sum_by (weight_of l.order) (take l.arg-index l.args)) (2 ^ 64 - 1);
  counted : (k : ℕ) → k < 16 → get_or l.table k 0 ≡
      min (get_or l.fn.table k 0 + sum_by (occurrences (l.base + k)) (take l.arg-index l.args)) (2 ^ 64 - 1);
}

abbrev pub decreases-weigh : goal.decreases-weigh
decreases-weigh l = size_of (term_of l.s)
