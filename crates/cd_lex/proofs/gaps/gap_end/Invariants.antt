use Rattle.std.proofs.Common.{length, ◌-◌, ◌≤◌}
use Rattle.cd_lex.specs.Gaps.{IsGapBetween}
use Rattle.cd_lex.proofs.gaps.gap_end.Given as goal

abbrev pub invariant-loop-at : goal.invariant-loop-at
invariant-loop-at l = record {
  within : l.at ≤ length l.bytes;
  gap : IsGapBetween l.bytes l.fn.from l.at;
}

abbrev pub decreases-loop-at : goal.decreases-loop-at
decreases-loop-at l = length l.bytes - l.at
