-- What is known of printed lines.
-- Beyond the headline: no clause of `prove` reaches this file.
use Rattle.std.specs.Prelude.{◌≡◌, List, ℕ, Some}
use Rattle.cd_symbols.specs.Symbol.{Symbol, AreDistinct}
use Rattle.cd_text.specs.declared.line.Line.{Line}
use Rattle.cd_text.specs.Texts.{line_text}
use Rattle.cd_text.specs.Formed.{ArePrintable, IsLine}
use Rattle.cd_line.specs.Lines.{exact, plain, line_read}

-- a printed line is read again, but for what isn't printed of it
abbrev pub LinesAreReadAgain : Type 0
LinesAreReadAgain =
    (symbols : List Symbol) (l : Line) (piece : List ℕ) → AreDistinct symbols → ArePrintable symbols → IsLine symbols l piece
    → line_read exact symbols 999 piece ≡ Some (plain l)

-- a printed line says which line it is: two lines of one piece are equal, but for what isn't printed of them
abbrev pub PrintedLinesAreOne : Type 0
PrintedLinesAreOne =
    (symbols : List Symbol) (l m : Line) (piece : List ℕ) → AreDistinct symbols → ArePrintable symbols → IsLine symbols l piece → IsLine symbols m piece
    → plain l ≡ plain m
