-- Lines as the code holds them: their numbers up to the greatest of 64 bits.
-- Beyond the headline: no clause of `prove` reaches this file.
use Rattle.std.specs.Prelude.{◌≡◌, ℕ, ◌-◌, ◌^◌, min, List, map}
use Rattle.cd_term.specs.Terms.{AreWithin}
use Rattle.cd_clause.specs.Clauses.{IsWithinBounds}
use Rattle.cd_symbols.specs.Symbol.{Symbol}
use Rattle.cd_text.specs.declared.line.Line.{Line}
use Rattle.cd_text.specs.declared.line.LineSource.{LineSource}
use Rattle.cd_text.specs.declared.line.LineSource.TheVariants.{File, Inference}
use Rattle.cd_text.specs.Formed.{IsLine}
use Rattle.cd_line.specs.Lines.{source_subst}

abbrev pub cap : ℕ → ℕ
cap n = min n (2 ^ 64 - 1)

abbrev pub capped_source : LineSource → LineSource
capped_source (File path label) = File path label
capped_source (Inference step parents) = Inference step (map cap parents)

abbrev pub capped_line : Line → Line
capped_line l = record { number = cap l.number; role = l.role; clause = l.clause; source = capped_source l.source }

-- the piece is a line that the code holds so
pub record IsHeld (symbols : List Symbol) (piece : List ℕ) (held : Line) : Type 0 where
  pub line : Line
  pub is : IsLine symbols line piece
  pub held_is : capped_line line ≡ held

abbrev pub IsWithin : Line → Type 0
IsWithin l = IsWithinBounds l.clause × AreWithin 65535 1000 (source_subst l.source)
