use Rattle.std.proofs.Common.{◌≡◌, ℕ, ◌+◌, ◌-◌, ◌^◌, ◌<◌, min, sum_by, take, get_or}
use Rattle.cd_term.specs.Terms.{size_of}
use Rattle.cd_kbo.specs.Sides.{term_of}
use Rattle.cd_kbo.specs.Kbo.{weight_of, occurrences}
use Rattle.cd_kbo.specs.Blocks.{InBlock}
use Rattle.cd_kbo.proofs.WalkLemmas.{Compared}
use Rattle.cd_kbo.proofs.knuth_bendix.+walk.Given as goal

abbrev pub invariant-loop-i : goal.invariant-loop-i
invariant-loop-i l = record {
  compared : Compared (InBlock l.base) l.order l.args l.others l.i l.same l.above;
  heavy : l.heavy ≡ min (sum_by (weight_of l.order) (take l.i l.args)) (2 ^ 64 - 1);
  light : l.light ≡ min (sum_by (weight_of l.order) (take l.i l.others)) (2 ^ 64 - 1);
  left : (k : ℕ) → k < 16 → get_or l.left k 0 ≡
      min (get_or l.fn.left k 0 + sum_by (occurrences (l.base + k)) (take l.i l.args)) (2 ^ 64 - 1);
  right : (k : ℕ) → k < 16 → get_or l.right k 0 ≡
      min (get_or l.fn.right k 0 + sum_by (occurrences (l.base + k)) (take l.i l.others)) (2 ^ 64 - 1);
}

abbrev pub decreases-walk : goal.decreases-walk
decreases-walk l = size_of (term_of l.s)
