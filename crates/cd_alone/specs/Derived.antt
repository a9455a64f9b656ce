-- The derivation of a peer that knows the empty clause: which records, their lines, and what makes lines a refutation.
-- Beyond the headline: no clause of `prove` reaches marks_of, picked, Made, clause_at, inputs_in, IsInferred,
--   IsLineOk, AreLinesOk, EndsWith, IsRefutation, AloneRunsRefute.
use Rattle.std.specs.List.{list_any}
use Rattle.std.specs.Prelude.{Bool, List, None, Option, Some, [], false, if◌then◌else◌, length, map, slice_get, true, ℕ, ◌++◌, ◌+◌, ◌==◌, ◌∷◌, ◌≡◌, ◌⊎◌}
use Rattle.cd_alone.specs.Alone.{AloneRun}
use Rattle.cd_clause.specs.declared.Clause.{Clause}
use Rattle.cd_kbo.specs.declared.order.Order.{Order}
use Rattle.cd_laws.specs.Premises.{Premises}
use Rattle.cd_ledger.specs.Records.{Registry, is_copy, recorded}
use Rattle.cd_ledger.specs.declared.events.Event.{Event}
use Rattle.cd_ledger.specs.declared.events.Verdict.TheVariants.{Refuted}
use Rattle.cd_ledger.specs.declared.local.Local.{Local}
use Rattle.cd_ledger.specs.declared.records.Known.{Known}
use Rattle.cd_machine.specs.Right.{IsReplayed}
use Rattle.cd_machine.specs.Rules.{IsFit, IsSubstFit, clauses_of, is_empty}
use Rattle.cd_names.specs.Names.{name_eq}
use Rattle.cd_names.specs.declared.names.Name.{Name}
use Rattle.cd_read.specs.declared.problem.Problem.{Problem}
use Rattle.cd_steps.specs.Bounds.{subst_of}
use Rattle.cd_steps.specs.Premises.{premises, IsRightWith}
use Rattle.cd_steps.specs.declared.Premise.{Premise}
use Rattle.cd_steps.specs.declared.Premise.TheVariants.{Before, Given, Named}
use Rattle.cd_steps.specs.declared.Step.{Step}
use Rattle.cd_steps.specs.declared.Step.TheVariants as step

-- what is known up to the first empty clause
abbrev pub up_to_empty : List Known → List Known
up_to_empty [] = []
up_to_empty (e ∷ es) = e ∷ (if is_empty e.entry.clause then [] else up_to_empty es)

-- entries that were chosen, and the names that these and the goal want
pub record Chosen : Type 0 where
  pub entries : List Known
  pub wanted : List Name

-- a name is among those wanted
abbrev pub is_wanted : List Name → Name → Bool
is_wanted names n = list_any (λ m. name_eq m n) names

-- an entry is chosen where a later one that is chosen cites it, or the goal is its name
abbrev pub with_entry : Known → Chosen → Chosen
with_entry e later = if is_wanted later.wanted e.entry.name then record { entries = e ∷ later.entries; wanted = later.wanted ++ e.entry.cites } else later

-- from the last entry to the first
abbrev pub choose : List Name → List Known → Chosen
choose goal [] = record { entries = []; wanted = goal }
choose goal (e ∷ es) = with_entry e (choose goal es)

-- the name of the last
abbrev pub last_names : List Known → List Name
last_names [] = []
last_names (e ∷ []) = e.entry.name ∷ []
last_names (e ∷ f ∷ es) = last_names (f ∷ es)

-- the first empty record and its ancestors, in the order in which they became known
abbrev pub ancestors : List Known → List Known
ancestors es = (choose (last_names (up_to_empty es)) (up_to_empty es)).entries

-- for each entry, whether it is chosen
abbrev pub marks_of : List Name → List Known → List Bool
marks_of goal [] = []
marks_of goal (e ∷ es) = is_wanted (choose goal es).wanted e.entry.name ∷ marks_of goal es

-- the entries that are marked
abbrev pub picked : List Bool → List Known → List Known
picked [] es = []
picked (b ∷ bs) [] = []
picked (b ∷ bs) (e ∷ es) = if b then e ∷ picked bs es else picked bs es

-- a line of a derivation: its number, its step, its clause, and the numbers of its parents
pub record Line : Type 0 where
  pub number : ℕ
  pub step : Step
  pub clause : Clause
  pub parents : List ℕ

-- the last line of each name
pub record Numbered : Type 0 where
  pub name : Name
  pub number : ℕ

-- the number of a name's last line
abbrev pub number_in : List Numbered → Name → ℕ
number_in [] n = 0
number_in (x ∷ xs) n = if name_eq x.name n then x.number else number_in xs n

-- the lines of a step's names, and of the clause before it where it goes on
abbrev pub parents_of : (Name → ℕ) → ℕ → Step → List ℕ
parents_of num cur (step.Input k) = []
parents_of num cur (step.Copy n) = []
parents_of num cur (step.Resolve a i b j t) = num a ∷ num b ∷ []
parents_of num cur (step.Factor a i j t) = num a ∷ []
parents_of num cur (step.Refl a i t) = num a ∷ []
parents_of num cur (step.EqFac a i s j z t) = num a ∷ []
parents_of num cur (step.Para a i s b j path t) = num a ∷ num b ∷ []
parents_of num cur (step.Rewrite a s j path t) = cur ∷ num a ∷ []
parents_of num cur step.Tidy = cur ∷ []

-- the line behind k others
abbrev pub line_of : (Name → ℕ) → ℕ → ℕ → Step → Clause → Line
line_of num k cur s c = record { number = k + 1; step = s; clause = c; parents = parents_of num cur s }

-- the lines of steps behind k lines, where cur is the line of the clause before; a Copy has none, its clause is the copied record's last line; end is the line of the last clause
abbrev pub AreStepLines : Problem → Registry → (Name → ℕ) → ℕ → ℕ → Option Clause → List Step → Clause → List Line → ℕ → Type 0
AreStepLines p R num k cur current [] c lines end = (lines ≡ []) × (end ≡ cur) × (current ≡ Some c)
AreStepLines p R num k cur current (s ∷ ss) c lines end =
    (d : Clause) × IsReplayed p R current s d
    × (((n : Name) × (s ≡ step.Copy n) × AreStepLines p R num k (num n) (Some d) ss c lines end)
    ⊎ ((is_copy s ≡ false) × ((others : List Line) × (lines ≡ line_of num k cur s d ∷ others) × AreStepLines p R num (k + 1) (k + 1) (Some d) ss c others end)))

-- the lines of entries behind the earlier ones, which have the numbers of the table and k lines
abbrev pub AreLines : Problem → List Known → List Numbered → ℕ → List Known → List Line → Type 0
AreLines p front table k [] lines = lines ≡ []
AreLines p front table k (e ∷ es) lines =
    (here : List Line) × (others : List Line) × (end : ℕ) × AreStepLines p (λ n. recorded n front) (number_in table) k 0 None e.entry.steps e.entry.clause here end
    × AreLines p (front ++ e ∷ []) (table ++ record { name = e.entry.name; number = end } ∷ []) (k + length here) es others × (lines ≡ here ++ others)

-- these are the lines of the derivation of a peer
abbrev pub IsDerivation : Problem → Local → List Line → Type 0
IsDerivation p s lines = AreLines p [] [] 0 (ancestors s.known) lines

-- the same, grown on the right, as a loop makes them
pub data Made (p : Problem) : List Known → List Numbered → List Line → Type 0 where
  made_none : Made p [] [] []
  made_more : (front : List Known) (numbers : List Numbered) (before : List Line) (e : Known) (here : List Line) (end : ℕ) → Made p front numbers before
      → AreStepLines p (λ n. recorded n front) (number_in numbers) (length before) 0 None e.entry.steps e.entry.clause here end
      → Made p (front ++ e ∷ []) (numbers ++ record { name = e.entry.name; number = end } ∷ []) (before ++ here)

-- the clause of the line with a number
abbrev pub clause_at : List Line → ℕ → Option Clause
clause_at [] number = None
clause_at (l ∷ ls) number = if l.number == number then Some l.clause else clause_at ls number

-- the inputs among the premises of a step
abbrev pub inputs_in : Problem → List Premise → List (Option Clause)
inputs_in p [] = []
inputs_in p (Before ∷ ps) = inputs_in p ps
inputs_in p (Given k ∷ ps) = slice_get (clauses_of p) k ∷ inputs_in p ps
inputs_in p (Named n ∷ ps) = inputs_in p ps

-- the step copies nothing, and is right with an input, or with the clauses of the earlier lines that are its parents
abbrev pub IsInferred : Problem → List Line → Step → List ℕ → Clause → Type 0
IsInferred p before s parents c = (is_copy s ≡ false) × IsRightWith (inputs_in p (premises s) ++ map (clause_at before) parents) s c

-- a line is right behind the earlier ones: it has the next number, its step is right, and its clause and substitution are within bounds and over the symbols
pub record IsLineOk (p : Problem) (before : List Line) (l : Line) : Type 0 where
  pub number : l.number ≡ length before + 1
  pub inferred : IsInferred p before l.step l.parents l.clause
  pub fit : IsFit p l.clause
  pub subst : IsSubstFit p (subst_of l.step)

-- each line is right behind the earlier ones
abbrev pub AreLinesOk : Problem → List Line → List Line → Type 0
AreLinesOk p before [] = Unit {0}
AreLinesOk p before (l ∷ ls) = IsLineOk p before l × AreLinesOk p (before ++ l ∷ []) ls

-- there is a last line, and it has this clause
abbrev pub EndsWith : (Clause → Type 0) → List Line → Type 0
EndsWith P [] = ⊥
EndsWith P (l ∷ []) = P l.clause
EndsWith P (l ∷ m ∷ ls) = EndsWith P (m ∷ ls)

-- lines that are right, the last with the empty clause
pub record IsRefutation (p : Problem) (lines : List Line) : Type 0 where
  pub right : AreLinesOk p [] lines
  pub end : EndsWith (λ c. is_empty c ≡ true) lines

-- a lone peer that ends Refuted has a derivation, and each is a refutation
abbrev pub AloneRunsRefute : Order → Type 0
AloneRunsRefute order = Premises order → (p : Problem) (start s : Local) (events : List Event) → AloneRun order p start events s → s.verdict ≡ Some Refuted
    → ((lines : List Line) × IsDerivation p s lines) × ((lines : List Line) → IsDerivation p s lines → IsRefutation p lines)
