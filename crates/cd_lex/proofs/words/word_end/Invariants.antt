use Rattle.std.proofs.Common.{length, ◌-◌, ◌≤◌, ℕ, drop}
use Rattle.cd_lex.specs.Bytes.{is_word_byte}
use Rattle.cd_lex.specs.Scans.{EndsRun}
use Rattle.cd_lex.proofs.words.word_end.Given as goal

-- where the run from here on ends, the run from the start does
abbrev pub invariant-loop-at : goal.invariant-loop-at
invariant-loop-at l = record {
  within : l.at ≤ length l.bytes;
  goes_on : (e : ℕ) → EndsRun is_word_byte (drop l.at l.bytes) l.at e → EndsRun is_word_byte (drop l.fn.from l.bytes) l.fn.from e;
}

abbrev pub decreases-loop-at : goal.decreases-loop-at
decreases-loop-at l = length l.bytes - l.at
