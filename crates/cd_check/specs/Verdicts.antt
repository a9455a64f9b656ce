-- What is first wrong with a text, and the verdict on it.
-- Beyond the headline: no clause of `prove` reaches this file.
use Rattle.std.specs.Prelude.{◌≡◌, ℕ, ◌+◌, true, List, [], ◌∷◌, ◌++◌, length, map, filter, ◌⊎◌}
use Rattle.std.specs.List.{AllByRecursion}
use Rattle.cd_clause.specs.declared.Clause.{Clause}
use Rattle.cd_symbols.specs.Symbol.{AreDistinct}
use Rattle.cd_read.specs.declared.problem.Problem.{Problem}
use Rattle.cd_text.specs.declared.line.Line.{Line}
use Rattle.cd_text.specs.Texts.{line_text}
use Rattle.cd_text.specs.Formed.{ArePrintable, IsLineFormed, IsLine}
use Rattle.cd_check.specs.declared.verdict.Why.{Why}
use Rattle.cd_check.specs.declared.verdict.Why.TheVariants as why
use Rattle.cd_check.specs.declared.verdict.Verdict.{Verdict}
use Rattle.cd_check.specs.declared.verdict.Verdict.TheVariants.{Accepted, Refused}
use Rattle.cd_check.specs.Accepted.{lines_of, is_taken, AreEarlier, IsFromInput, IsInferred, AreLinesOk, clause_of, EndsEmpty, AcceptedText}

-- of these pieces of a text, those that are taken are these lines, each of them right behind the earlier ones
pub record Derives (p : Problem) (before : List Clause) (pieces : List (List ℕ)) (lines : List Line) : Type 0 where
  pub form : filter is_taken pieces ≡ map (line_text p.symbols) lines
  pub formed : AllByRecursion (IsLineFormed p.symbols) lines
  pub right : AreLinesOk p before lines

-- the condition fails of a piece behind these clauses, and those before it hold
abbrev pub Fails : Problem → List Clause → List ℕ → Why → Type 0
Fails p before piece why.Form = (l : Line) → IsLine p.symbols l piece → ⊥
Fails p before piece why.Number = (l : Line) × IsLine p.symbols l piece × (l.number ≡ length before + 1 → ⊥)
Fails p before piece why.Parent =
    (l : Line) × IsLine p.symbols l piece × (l.number ≡ length before + 1) × (AreEarlier before l.source → ⊥)
Fails p before piece why.Input =
    (l : Line) × IsLine p.symbols l piece × (l.number ≡ length before + 1) × AreEarlier before l.source × (IsFromInput p l l.source → ⊥)
Fails p before piece why.Step =
    (l : Line) × IsLine p.symbols l piece × (l.number ≡ length before + 1) × AreEarlier before l.source × IsFromInput p l l.source
    × (IsInferred before l.clause l.source → ⊥)
Fails p before piece why.End = ⊥

-- every line before this one is right, and this one fails; it is the line after so many
pub record WrongAt (p : Problem) (before : List Clause) (passed : ℕ) (pieces : List (List ℕ)) (line : ℕ) (w : Why) : Type 0 where
  pub front : List (List ℕ)
  pub piece : List ℕ
  pub back : List (List ℕ)
  pub lines : List Line
  pub split : pieces ≡ front ++ piece ∷ back
  pub derives : Derives p before front lines
  pub taken : is_taken piece ≡ true
  pub place : line ≡ passed + length front + 1
  pub fails : Fails p (before ++ map clause_of lines) piece w

-- every line is right, and the last one doesn't have the empty clause
pub record NoEnd (p : Problem) (before : List Clause) (passed : ℕ) (pieces : List (List ℕ)) (line : ℕ) : Type 0 where
  pub lines : List Line
  pub derives : Derives p before pieces lines
  pub place : line ≡ passed + length pieces + 1
  pub ends : EndsEmpty (before ++ map clause_of lines) → ⊥

abbrev pub FirstWrong : Problem → List ℕ → ℕ → Why → Type 0
FirstWrong p text line w = WrongAt p [] 0 (lines_of text) line w ⊎ ((w ≡ why.End) × NoEnd p [] 0 (lines_of text) line)

-- the text is accepted, with so many lines; or refused with its first line that fails and the first condition that it fails
abbrev pub Judges : Problem → List ℕ → Verdict → Type 0
Judges p text (Accepted count) = (a : AcceptedText p text) × (count ≡ length a.lines)
Judges p text (Refused line w) = FirstWrong p text line w

-- a text has one verdict
abbrev pub VerdictsAreOne : Type 0
VerdictsAreOne =
    (p : Problem) (text : List ℕ) (v w : Verdict) → AreDistinct p.symbols → ArePrintable p.symbols → Judges p text v → Judges p text w → v ≡ w
