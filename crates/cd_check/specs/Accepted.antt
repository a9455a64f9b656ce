-- The texts that are accepted as derivations from a problem.
-- Beyond the headline: no clause of `prove` reaches AcceptedTextsRefute.
use Rattle.std.specs.Prelude.{◌≡◌, ℕ, zero, suc, ◌+◌, Bool, false, not, ◌==◌, if◌then◌else◌, List, [], ◌∷◌, ◌++◌, length, map, filter, Option, Some, None, slice_get, is_some, IsTrue}
use Rattle.std.specs.List.{AllByRecursion, list_all}
use Rattle.cd_clause.specs.declared.Clause.{Clause}
use Rattle.cd_clause.specs.Truth.{HaveNoModel}
use Rattle.cd_steps.specs.Premises.{IsRightWith}
use Rattle.cd_parse.specs.declared.label.Label.{Label}
use Rattle.cd_read.specs.declared.problem.Problem.{Problem}
use Rattle.cd_read.specs.declared.problem.Input.{Input as ProblemInput}
use Rattle.cd_text.specs.declared.line.Line.{Line}
use Rattle.cd_text.specs.declared.line.LineRole.TheVariants.{Given}
use Rattle.cd_text.specs.declared.line.LineSource.{LineSource}
use Rattle.cd_text.specs.declared.line.LineSource.TheVariants.{File, Inference}
use Rattle.cd_text.specs.Texts.{quoted, label_text, line_text}
use Rattle.cd_text.specs.Formed.{IsLineFormed}

-- ---- the lines of a text

abbrev pub onto : ℕ → List (List ℕ) → List (List ℕ)
onto b [] = (b ∷ []) ∷ []
onto b (l ∷ ls) = (b ∷ l) ∷ ls

-- a text is cut at line feeds; a last piece without one is a line too, unless it is empty
abbrev pub lines_of : List ℕ → List (List ℕ)
lines_of [] = []
lines_of (b ∷ bs) = if b == 10 then [] ∷ lines_of bs else onto b (lines_of bs)

-- empty lines and those that begin with a percent sign are passed over
abbrev pub is_taken : List ℕ → Bool
is_taken [] = false
is_taken (b ∷ bs) = not (b == 37)

-- ---- what is asked of a line behind the clauses of the earlier lines

-- the clause of the line with this number, the first being line 1
abbrev pub clause_of_line : List Clause → ℕ → Option Clause
clause_of_line before zero = None
clause_of_line before (suc n) = slice_get before n

-- each parent is an earlier line
abbrev pub are_earlier : List Clause → List ℕ → Bool
are_earlier before parents = list_all (λ n. is_some (clause_of_line before n)) parents

abbrev pub AreEarlier : List Clause → LineSource → Type 0
AreEarlier before (File path label) = Unit {0}
AreEarlier before (Inference step parents) = IsTrue (are_earlier before parents)

-- some input has that role and clause, and in print that path and label
pub record IsInput (p : Problem) (l : Line) (path : List ℕ) (label : Label) : Type 0 where
  pub place : ℕ
  pub input : ProblemInput
  pub there : slice_get p.inputs place ≡ Some input
  pub role : l.role ≡ Given input.role
  pub path_is : quoted input.file ≡ quoted path
  pub label_is : label_text input.label ≡ label_text label
  pub clause_is : input.clause ≡ l.clause

abbrev pub IsFromInput : Problem → Line → LineSource → Type 0
IsFromInput p l (File path label) = IsInput p l path label
IsFromInput p l (Inference step parents) = Unit {0}

-- the step is right with the clauses of its parents, in their order
abbrev pub IsInferred : List Clause → Clause → LineSource → Type 0
IsInferred before c (File path label) = Unit {0}
IsInferred before c (Inference step parents) = IsRightWith (map (clause_of_line before) parents) step c

-- the four conditions, beside the form, in the order in which they are looked at
pub record IsLineOk (p : Problem) (before : List Clause) (l : Line) : Type 0 where
  pub number : l.number ≡ length before + 1
  pub parents : AreEarlier before l.source
  pub input : IsFromInput p l l.source
  pub step : IsInferred before l.clause l.source

abbrev pub AreLinesOk : Problem → List Clause → List Line → Type 0
AreLinesOk p before [] = Unit {0}
AreLinesOk p before (l ∷ ls) = IsLineOk p before l × AreLinesOk p (before ++ l.clause ∷ []) ls

abbrev pub clause_of : Line → Clause
clause_of l = l.clause

-- there is a last clause, and it is the empty one
abbrev pub EndsEmpty : List Clause → Type 0
EndsEmpty [] = ⊥
EndsEmpty (c ∷ []) = c.literals ≡ []
EndsEmpty (c ∷ d ∷ cs) = EndsEmpty (d ∷ cs)

-- ---- accepted texts

-- a refutation: lines that are formed, each right behind the earlier ones, the last one with the empty clause
pub record IsRefutation (p : Problem) (lines : List Line) : Type 0 where
  pub formed : AllByRecursion (IsLineFormed p.symbols) lines
  pub right : AreLinesOk p [] lines
  pub end : EndsEmpty (map clause_of lines)

-- the lines of the text that aren't passed over are those of a refutation, byte for byte
pub record AcceptedText (p : Problem) (text : List ℕ) : Type 0 where
  pub lines : List Line
  pub form : filter is_taken (lines_of text) ≡ map (line_text p.symbols) lines
  pub refutes : IsRefutation p lines

-- ---- what an accepted text shows

abbrev pub input_clauses : List ProblemInput → List Clause
input_clauses is = map (λ i. i.clause) is

-- no finite interpretation satisfies a problem from which some text is accepted
abbrev pub AcceptedTextsRefute : Type 0
AcceptedTextsRefute = (p : Problem) (text : List ℕ) → AcceptedText p text → HaveNoModel (input_clauses p.inputs)
