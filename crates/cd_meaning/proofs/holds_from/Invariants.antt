use Rattle.std.proofs.Common.{◌≡◌, ℕ, ◌-◌, ◌<◌, ◌^◌, List, length, get_or}
use Rattle.cd_meaning.specs.Interps.{interp_of, point_of, IsTrueAt, rank}
use Rattle.cd_meaning.proofs.Ranks.{Tried}
use Rattle.cd_meaning.proofs.holds_from.Given as goal

abbrev pub invariant-points : goal.invariant-points
invariant-points l = record {
  same : length l.point ≡ length l.initial.point;
  elements : (k : ℕ) → get_or l.point k 0 < l.size;
  tried : Tried (λ (q : List ℕ). IsTrueAt (interp_of l.size l.tables) l.literals (point_of q)) l.size (length l.initial.point) (rank l.size l.point);
}

abbrev pub decreases-points : goal.decreases-points
decreases-points l = l.size ^ length l.point - rank l.size l.point
