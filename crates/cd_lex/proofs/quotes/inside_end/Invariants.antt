use Rattle.std.proofs.Common.{length, ◌-◌, ◌≤◌, drop}
use Rattle.cd_lex.specs.Scans.{EndsInside}
use Rattle.cd_lex.specs.declared.quotes.InsideEnd.{InsideEnd}
use Rattle.cd_lex.proofs.quotes.inside_end.Given as goal

-- what the bytes from here on come to, those from the start do
abbrev pub invariant-loop-at : goal.invariant-loop-at
invariant-loop-at l = record {
  within : l.at ≤ length l.bytes;
  goes_on : (r : InsideEnd) → EndsInside l.quote (drop l.at l.bytes) l.at r → EndsInside l.fn.quote (drop l.fn.from l.bytes) l.fn.from r;
}

abbrev pub decreases-loop-at : goal.decreases-loop-at
decreases-loop-at l = length l.bytes - l.at
