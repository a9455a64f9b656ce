-- What a word keeps.
-- Beyond the headline: no clause of `prove` reaches this file.
use Rattle.std.specs.Prelude.{ℕ, ◌≤◌, List, take}
use Rattle.std.specs.Str.{IsAscii}
use Rattle.cd_parse.specs.declared.word.Kept.{Kept}
use Rattle.cd_parse.specs.declared.word.Kept.TheVariants.{Short, Long}

abbrev pub kept_bytes : Kept → List ℕ
kept_bytes (Short n bytes) = take n bytes
kept_bytes (Long b) = b.value

-- a short word is ASCII
abbrev pub IsKept : Kept → Type 0
IsKept (Short n bytes) = (n ≤ 14) × IsAscii (take n bytes)
IsKept (Long b) = Unit {0}
