-- What the lines of a text are, and which of them are taken.
-- Beyond the headline: no clause of `prove` reaches this file.
use Rattle.std.specs.Prelude.{◌≡◌, ℕ, true, false, List, [], ◌∷◌, ◌++◌, map, filter, Some, slice_get}
use Rattle.std.specs.List.{flat_map, AllByRecursion}
use Rattle.cd_symbols.specs.Symbol.{Symbol}
use Rattle.cd_read.specs.declared.problem.Problem.{Problem}
use Rattle.cd_text.specs.declared.line.Line.{Line}
use Rattle.cd_text.specs.Texts.{line_text}
use Rattle.cd_text.specs.Feeds.{feedless, SourceFits}
use Rattle.cd_check.specs.Accepted.{lines_of, is_taken, IsRefutation, AcceptedText}

-- one line that begins with a percent sign
pub record IsComment (text : List ℕ) : Type 0 where
  pub begins : slice_get text 0 ≡ Some 37
  pub one_line : feedless text ≡ true

-- two comments, lines and another comment, each with a line feed behind it
abbrev pub between_comments : List Symbol → List ℕ → List ℕ → List Line → List ℕ → List ℕ
between_comments symbols x y ls z =
    (x ++ 10 ∷ []) ++ ((y ++ 10 ∷ []) ++ (flat_map (λ l. line_text symbols l ++ 10 ∷ []) ls ++ (z ++ 10 ∷ [])))

abbrev pub LinesAreCut : Type 0
LinesAreCut = (pieces : List (List ℕ)) → AllByRecursion (λ piece. feedless piece ≡ true) pieces → lines_of (flat_map (λ piece. piece ++ 10 ∷ []) pieces) ≡ pieces

abbrev pub PrintedLinesAreTaken : Type 0
PrintedLinesAreTaken = (symbols : List Symbol) (l : Line) → is_taken (line_text symbols l) ≡ true

abbrev pub CommentsArePassedOver : Type 0
CommentsArePassedOver = (text : List ℕ) → slice_get text 0 ≡ Some 37 → is_taken text ≡ false

-- of two comments, the lines of a derivation and another comment the derivation is taken
abbrev pub DerivationsAreTaken : Type 0
DerivationsAreTaken = (symbols : List Symbol) (x y z : List ℕ) (ls : List Line) → IsComment x → IsComment y → IsComment z
    → AllByRecursion (λ l. SourceFits l.source) ls → filter is_taken (lines_of (between_comments symbols x y ls z)) ≡ map (line_text symbols) ls

-- a refutation, printed between comments, is an accepted text
abbrev pub RefutationsAreAccepted : Type 0
RefutationsAreAccepted = (p : Problem) (x y z : List ℕ) (ls : List Line) → IsComment x → IsComment y → IsComment z
    → IsRefutation p ls → AcceptedText p (between_comments p.symbols x y ls z)
