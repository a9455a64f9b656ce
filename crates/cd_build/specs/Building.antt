-- Lines that are made of steps one after another, where a number for each place of a record says which line has its clause.
-- Beyond the headline: no clause of `prove` reaches this file.
use Rattle.std.specs.Prelude.{◌≡◌, ◌⊎◌, ◌-◌, ◌++◌, ℕ, Bool, true, false, if◌then◌else◌, List, [], ◌∷◌, length, map, Option, None, Some, slice_get, option_map}
use Rattle.cd_alone.specs.Derived as derived
use Rattle.cd_alone.specs.Derived.{AreLines, AreStepLines, line_of}
use Rattle.cd_clause.specs.declared.Clause.{Clause}
use Rattle.cd_ledger.specs.Records.{is_copy, is_of, recorded}
use Rattle.cd_ledger.specs.declared.records.Known.{Known}
use Rattle.cd_machine.specs.Right.{IsReplayed}
use Rattle.cd_names.specs.declared.names.Name.{Name}
use Rattle.cd_read.specs.declared.problem.Problem.{Problem}
use Rattle.cd_steps.specs.declared.Premise.{Premise}
use Rattle.cd_steps.specs.declared.Premise.TheVariants as premise
use Rattle.cd_steps.specs.declared.Step.{Step}
use Rattle.cd_steps.specs.declared.Step.TheVariants as step
use Rattle.cd_text.specs.declared.line.Line.{Line}
use Rattle.cd_build.specs.Derivation.{printed}
use Rattle.cd_build.specs.declared.derive.Before.{Before}
use Rattle.cd_build.specs.declared.derive.Before.TheVariants.{Nothing, Copied, Printed}

-- the number in the first place with the name, 0 where there is none
abbrev pub number_of : List Known → List ℕ → Name → ℕ
number_of [] numbers n = 0
number_of (e ∷ es) [] n = 0
number_of (e ∷ es) (k ∷ ks) n = if is_of n e then k else number_of es ks n

-- the lines of a step's premises; an input has none
abbrev pub parents_in : (Name → ℕ) → ℕ → List Premise → List ℕ
parents_in num cur [] = []
parents_in num cur (premise.Before ∷ qs) = cur ∷ parents_in num cur qs
parents_in num cur (premise.Given k ∷ qs) = parents_in num cur qs
parents_in num cur (premise.Named n ∷ qs) = num n ∷ parents_in num cur qs

abbrev pub plain_line : ℕ → Step → Clause → List ℕ → derived.Line
plain_line number s c parents = record { number = number; step = s; clause = c; parents = parents }

abbrev pub line_clause : Option Line → Option Clause
line_clause None = None
line_clause (Some l) = Some l.clause

-- the clause of the last line
abbrev pub last_clause : List Line → Option Clause
last_clause lines = line_clause (slice_get lines (length lines - 1))

-- the clause before a step, by where it stands
abbrev pub clause_before : List Known → List Line → Before → Option Clause
clause_before es lines Nothing = None
clause_before es lines (Copied n) = option_map (λ r. r.clause) (recorded n es)
clause_before es lines Printed = last_clause lines

-- the number of its line
abbrev pub number_before : List Known → List ℕ → List Line → Before → ℕ
number_before es numbers lines Nothing = 0
number_before es numbers lines (Copied n) = number_of es numbers n
number_before es numbers lines Printed = length lines

-- the step's line joins the lines, with the clause that the step gives
abbrev pub IsAdded : Problem → List Known → List ℕ → Before → Step → List Line → List Line → Type 0
IsAdded p es numbers before s lines new =
    (c : Clause) × IsReplayed p (λ n. recorded n es) (clause_before es lines before) s c
    × (new ≡ lines ++ printed p (line_of (number_of es numbers) (length lines) (number_before es numbers lines before) s c) ∷ [])

-- behind a step: a copy has no line
abbrev pub IsPassed : Problem → List Known → List ℕ → Before → Step → List Line → List Line → Before → Type 0
IsPassed p es numbers before s lines new after =
    ((n : Name) × (s ≡ step.Copy n) × (new ≡ lines) × (after ≡ Copied n))
    ⊎ ((is_copy s ≡ false) × IsAdded p es numbers before s lines new × (after ≡ Printed))

-- the lines of steps join the lines; end is the line of the last clause
abbrev pub AreAdded : Problem → List Known → List ℕ → List Step → List Line → List Line → ℕ → Type 0
AreAdded p es numbers steps lines new end =
    (c : Clause) × (here : List derived.Line) × AreStepLines p (λ n. recorded n es) (number_of es numbers) (length lines) 0 None steps c here end
    × (new ≡ lines ++ map (printed p) here)

-- the same of a record that is marked
abbrev pub AreAddedIf : Bool → Problem → List Known → List ℕ → List Step → List Line → List Line → ℕ → Type 0
AreAddedIf true p es numbers steps lines new end = AreAdded p es numbers steps lines new end
AreAddedIf false p es numbers steps lines new end = (new ≡ lines) × (end ≡ 0)

-- the printed lines of entries
abbrev pub AreLinesOf : Problem → List Known → List Line → Type 0
AreLinesOf p es lines = (plain : List derived.Line) × AreLines p [] [] 0 es plain × (lines ≡ map (printed p) plain)
