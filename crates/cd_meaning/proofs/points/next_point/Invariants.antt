use Rattle.std.proofs.Common.{◌≡◌, ℕ, ◌+◌, ◌<◌, ◌^◌, length, get_or}
use Rattle.cd_meaning.specs.Interps.{rank}
use Rattle.cd_meaning.proofs.points.next_point.Given as goal

abbrev pub invariant-loop-i : goal.invariant-loop-i
invariant-loop-i l = record {
  same : length l.point ≡ length l.initial.point;
  elements : (k : ℕ) → get_or l.point k 0 < l.size;
  carried : rank l.size l.initial.point + 1 ≡ rank l.size l.point + l.size ^ l.i;
}
