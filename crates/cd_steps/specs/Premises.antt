-- What a step stands on, and steps that are right over a registry of clauses.
-- Beyond the headline: no clause of `prove` reaches listed, numbers_of.
use Rattle.std.specs.Prelude.{◌≡◌, ℕ, Bool, true, false, MatchBool, List, [], ◌∷◌, length, map, Option, None, Some, slice_get}
use Rattle.std.specs.List.{list_any, flat_map}
use Rattle.cd_names.specs.declared.names.Name.{Name}
use Rattle.cd_clause.specs.declared.Clause.{Clause}
use Rattle.cd_steps.specs.declared.Premise.{Premise}
use Rattle.cd_steps.specs.declared.Premise.TheVariants.{Before, Given, Named}
use Rattle.cd_steps.specs.declared.Step.{Step}
use Rattle.cd_steps.specs.declared.Step.TheVariants.{Input, Copy, Resolve, Factor, Refl, EqFac, Para, Rewrite, Tidy}
use Rattle.cd_steps.specs.Steps.{StepOk}

-- what a step stands on, the clause before it first
abbrev pub premises : Step → List Premise
premises (Input index) = Given index ∷ []
premises (Copy of) = Named of ∷ []
premises (Resolve pos i neg j subst) = Named pos ∷ Named neg ∷ []
premises (Factor of i j subst) = Named of ∷ []
premises (Refl of i subst) = Named of ∷ []
premises (EqFac of i s j z subst) = Named of ∷ []
premises (Para giver i s taker j at subst) = Named giver ∷ Named taker ∷ []
premises (Rewrite by s j at subst) = Before ∷ Named by ∷ []
premises Tidy = Before ∷ []

-- premises as the code gives them: each step has one or two
abbrev pub listed : Premise × Option Premise → List Premise
listed (p, None) = p ∷ []
listed (p, Some q) = p ∷ q ∷ []

-- a step that changes the clause before it
abbrev pub is_before : Premise → Bool
is_before Before = true
is_before (Given index) = false
is_before (Named name) = false

abbrev pub goes_on : Step → Bool
goes_on step = list_any is_before (premises step)

-- the numbers of a step: its places of literals and sides, and its path
abbrev pub numbers_of : Step → List ℕ
numbers_of (Input index) = []
numbers_of (Copy of) = []
numbers_of (Resolve pos i neg j subst) = i ∷ j ∷ []
numbers_of (Factor of i j subst) = i ∷ j ∷ []
numbers_of (Refl of i subst) = i ∷ []
numbers_of (EqFac of i s j z subst) = i ∷ s ∷ j ∷ z ∷ []
numbers_of (Para giver i s taker j at subst) = i ∷ s ∷ j ∷ at
numbers_of (Rewrite by s j at subst) = s ∷ j ∷ at
numbers_of Tidy = []

-- the names that a step mentions
abbrev pub names_of : Premise → List Name
names_of Before = []
names_of (Given index) = []
names_of (Named name) = name ∷ []

abbrev pub names_in : Step → List Name
names_in step = flat_map names_of (premises step)

-- a step is right from the clauses of its premises, in their order
abbrev pub IsRightFrom : Step → List Clause → Clause → Type 0
IsRightFrom step cs result =
    (length cs ≡ length (premises step))
    × MatchBool (goes_on step)
    (StepOk step (slice_get cs 0) (slice_get cs 1) (slice_get cs 2) result)
    (StepOk step None (slice_get cs 0) (slice_get cs 1) result)

-- a step is right over what its premises stand for, in their order: each of them stands for a clause, and it is right from
-- these
pub record IsRightWith (stand : List (Option Clause)) (step : Step) (result : Clause) : Type 0 where
  pub clauses : List Clause
  pub are : stand ≡ map Some clauses
  pub right : IsRightFrom step clauses result

-- a registry says which clause a premise stands for, if it stands for one
abbrev pub Registry : Type 0
Registry = Premise → Option Clause

-- a step is right over a registry
abbrev pub IsRightOver : Registry → Step → Clause → Type 0
IsRightOver registry step result = IsRightWith (map registry (premises step)) step result
