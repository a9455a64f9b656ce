-- Texts without a line feed, and that what is printed has none.
-- Beyond the headline: no clause of `prove` reaches this file.
use Rattle.std.specs.Prelude.{◌≡◌, ℕ, Bool, true, not, ◌&&◌, ◌==◌, List, [], ◌∷◌}
use Rattle.cd_clause.specs.declared.Clause.{Clause}
use Rattle.cd_symbols.specs.Symbol.{Symbol}
use Rattle.cd_parse.specs.declared.label.Label.{Label}
use Rattle.cd_read.specs.Formed.{IsLabelFormed}
use Rattle.cd_text.specs.declared.line.Line.{Line}
use Rattle.cd_text.specs.declared.line.LineSource.{LineSource}
use Rattle.cd_text.specs.declared.line.LineSource.TheVariants.{File, Inference}
use Rattle.cd_text.specs.Texts.{shown, quoted, word_text, label_text, clause_text, line_text}

-- no byte is a line feed
abbrev pub feedless : List ℕ → Bool
feedless [] = true
feedless (b ∷ bs) = not (b == 10) && feedless bs

-- a label that is an integer is digits
abbrev pub SourceFits : LineSource → Type 0
SourceFits (File path label) = IsLabelFormed label
SourceFits (Inference step parents) = Unit {0}

-- whatever bytes a text has, what is shown, quoted or printed of it as a word has no line feed
abbrev pub PrintedWordsHaveNoFeed : Type 0
PrintedWordsHaveNoFeed = (text : List ℕ) → (feedless (shown text) ≡ true) × (feedless (quoted text) ≡ true) × (feedless (word_text text) ≡ true)

abbrev pub PrintedLabelsHaveNoFeed : Type 0
PrintedLabelsHaveNoFeed = (label : Label) → IsLabelFormed label → feedless (label_text label) ≡ true

abbrev pub PrintedClausesHaveNoFeed : Type 0
PrintedClausesHaveNoFeed = (symbols : List Symbol) (c : Clause) → feedless (clause_text symbols c) ≡ true

abbrev pub PrintedLinesHaveNoFeed : Type 0
PrintedLinesHaveNoFeed = (symbols : List Symbol) (l : Line) → SourceFits l.source → feedless (line_text symbols l) ≡ true
