use Rattle.std.proofs.Common.{◌≡◌, ℕ, ◌<◌, ◌%◌, length}
use Rattle.std.specs.Prelude.{slice_index}
use Rattle.std.specs.Int.{bit_at}
use Rattle.cd_contract.proofs.marks.Marks.brief.Given as goal

abbrev pub invariant-loop-i : goal.invariant-loop-i
invariant-loop-i l = record {
  as_long : length l.words ≡ 8;
  marked : (j b : ℕ) → j < l.i → bit_at (slice_index l.word-items j) b ≡ 1 → bit_at (slice_index l.words (j % 8)) b ≡ 1;
}
