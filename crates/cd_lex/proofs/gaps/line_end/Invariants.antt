use Rattle.std.proofs.Common.{length, ◌-◌, ◌≤◌, ℕ, Option, drop}
use Rattle.cd_lex.specs.Scans.{EndsLine}
use Rattle.cd_lex.proofs.gaps.line_end.Given as goal

-- what the bytes from here on come to, those from the start do
abbrev pub invariant-loop-at : goal.invariant-loop-at
invariant-loop-at l = record {
  within : l.at ≤ length l.bytes;
  ahead : l.fn.from ≤ l.at;
  goes_on : (r : Option ℕ) → EndsLine (drop l.at l.bytes) l.at r → EndsLine (drop l.fn.from l.bytes) l.fn.from r;
}

abbrev pub decreases-loop-at : goal.decreases-loop-at
decreases-loop-at l = length l.bytes - l.at
