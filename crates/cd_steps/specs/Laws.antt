-- What follows from right steps. Each law is the contract of a function of the module `laws`.
-- Beyond the headline: no clause of `prove` reaches this file.
use Rattle.std.specs.Prelude.{◌≡◌, ◌↔◌, ◌≤◌, ℕ, true, List, [], ◌∷◌, ◌++◌, length, map, Option, None, Some, slice_get, slice_set, IsTrue}
use Rattle.std.specs.List.{AllByRecursion}
use Rattle.cd_term.specs.declared.Term.{Term}
use Rattle.cd_term.specs.Terms.{applied, bound_of, greatest}
use Rattle.cd_term.specs.Symbols.{Symbols, AreOver}
use Rattle.cd_clause.specs.declared.Atom.{Atom}
use Rattle.cd_clause.specs.declared.Literal.{Literal}
use Rattle.cd_clause.specs.declared.Clause.{Clause}
use Rattle.cd_clause.specs.Clauses.{clause_terms, variable_bound_of}
use Rattle.cd_clause.specs.Over.{LiteralsOver}
use Rattle.cd_clause.specs.Places.{signed, HasSides, subterm_at, replaced_at}
use Rattle.cd_clause.specs.Truth.{Interp, IsInterp, Holds, Models}
use Rattle.cd_steps.specs.declared.Premise.{Premise}
use Rattle.cd_steps.specs.declared.Step.{Step}
use Rattle.cd_steps.specs.Rules.{Inference, FollowsBy, IsResolution, IsFactoring, IsReflexivity, IsEqualityFactoring, IsParamodulation, IsRewriting}
use Rattle.cd_steps.specs.Steps.{StepOk, themselves}
use Rattle.cd_steps.specs.Premises.{premises, goes_on, Registry, IsRightOver}

-- ---- rules

-- what follows by a rule holds in every finite interpretation in which the premises do
abbrev pub IsSound : List Clause → (Inference → Type 0) → Type 0
IsSound cs Rule = (interp : Interp) (subst : List Term) (result : Clause) → IsInterp interp → Models interp cs → FollowsBy Rule subst result → Holds interp result

abbrev pub ResolutionsAreSound : Type 0
ResolutionsAreSound = (a : Clause) (i : ℕ) (b : Clause) (j : ℕ) → IsSound (a ∷ b ∷ []) (IsResolution a i b j)

abbrev pub FactoringsAreSound : Type 0
FactoringsAreSound = (c : Clause) (i j : ℕ) → IsSound (c ∷ []) (IsFactoring c i j)

abbrev pub ReflexivitiesAreSound : Type 0
ReflexivitiesAreSound = (c : Clause) (i : ℕ) → IsSound (c ∷ []) (IsReflexivity c i)

abbrev pub EqualityFactoringsAreSound : Type 0
EqualityFactoringsAreSound = (c : Clause) (i s j z : ℕ) → IsSound (c ∷ []) (IsEqualityFactoring c i s j z)

abbrev pub ParamodulationsAreSound : Type 0
ParamodulationsAreSound = (a : Clause) (i s : ℕ) (b : Clause) (j : ℕ) (path : List ℕ) → IsSound (a ∷ b ∷ []) (IsParamodulation a i s b j path)

abbrev pub RewritingsAreSound : Type 0
RewritingsAreSound = (e : Clause) (s : ℕ) (c : Clause) (j : ℕ) (path : List ℕ) → IsSound (e ∷ c ∷ []) (IsRewriting e s c j path)

-- the equation of a rewriting step and its result imply the clause before it
abbrev pub RewritingsAreReversible : Type 0
RewritingsAreReversible = (interp : Interp) (e : Clause) (s : ℕ) (c : Clause) (j : ℕ) (path : List ℕ) (subst : List Term) (result : Clause) → IsInterp interp →
    FollowsBy (IsRewriting e s c j path) (subst ++ themselves c) result → Holds interp e → Holds interp result → Holds interp c

-- rewriting, said of the clause before it as it stands
pub record Rewrites (e : Clause) (s : ℕ) (c : Clause) (j : ℕ) (path : List ℕ) (subst : List Term) (result : Clause) : Type 0 where
  pub equation : Atom
  pub side : Term
  pub other : Term
  pub taker : Literal
  pub changed : Atom
  pub one : e.literals ≡ signed true equation ∷ []
  pub sides : HasSides s equation side other
  pub covers : length subst ≡ variable_bound_of e
  pub literal : slice_get c.literals j ≡ Some taker
  pub there : subterm_at path taker.atom ≡ Some (applied subst side)
  pub becomes : replaced_at path (applied subst other) taker.atom ≡ Some changed
  pub rest : result.literals ≡ slice_set c.literals j (signed taker.positive changed)

abbrev pub RewritingsAreInPlace : Type 0
RewritingsAreInPlace = (e : Clause) (s : ℕ) (c : Clause) (j : ℕ) (path : List ℕ) (subst : List Term) (result : Clause) →
    FollowsBy (IsRewriting e s c j path) (subst ++ themselves c) result ↔ Rewrites e s c j path subst result

-- a rule makes at most one inference, over the variables and the symbols of its premises
abbrev pub GivesOne : (Inference → Type 0) → Type 0
GivesOne Rule = (x y : Inference) → Rule x → Rule y → x ≡ y

pub record IsBounded (x : Inference) : Type 0 where
  pub left : greatest (map bound_of x.left) ≤ x.variables
  pub right : greatest (map bound_of x.right) ≤ x.variables
  pub conclusion : greatest (map bound_of (clause_terms x.conclusion)) ≤ x.variables

abbrev pub AreBounded : (Inference → Type 0) → Type 0
AreBounded Rule = (x : Inference) → Rule x → IsBounded x

pub record InferenceOver (y : Symbols) (x : Inference) : Type 0 where
  pub left : AreOver y x.left
  pub right : AreOver y x.right
  pub conclusion : LiteralsOver y x.conclusion

abbrev pub StayOver : List Clause → (Inference → Type 0) → Type 0
StayOver cs Rule = (y : Symbols) (x : Inference) → AllByRecursion (λ c. LiteralsOver y c.literals) cs → Rule x → InferenceOver y x

pub record IsRegular (cs : List Clause) (Rule : Inference → Type 0) : Type 0 where
  pub one : GivesOne Rule
  pub bounded : AreBounded Rule
  pub over : StayOver cs Rule

abbrev pub ResolutionsAreRegular : Type 0
ResolutionsAreRegular = (a : Clause) (i : ℕ) (b : Clause) (j : ℕ) → IsRegular (a ∷ b ∷ []) (IsResolution a i b j)

abbrev pub FactoringsAreRegular : Type 0
FactoringsAreRegular = (c : Clause) (i j : ℕ) → IsRegular (c ∷ []) (IsFactoring c i j)

abbrev pub ReflexivitiesAreRegular : Type 0
ReflexivitiesAreRegular = (c : Clause) (i : ℕ) → IsRegular (c ∷ []) (IsReflexivity c i)

abbrev pub EqualityFactoringsAreRegular : Type 0
EqualityFactoringsAreRegular = (c : Clause) (i s j z : ℕ) → IsRegular (c ∷ []) (IsEqualityFactoring c i s j z)

abbrev pub ParamodulationsAreRegular : Type 0
ParamodulationsAreRegular = (a : Clause) (i s : ℕ) (b : Clause) (j : ℕ) (path : List ℕ) → IsRegular (a ∷ b ∷ []) (IsParamodulation a i s b j path)

abbrev pub RewritingsAreRegular : Type 0
RewritingsAreRegular = (e : Clause) (s : ℕ) (c : Clause) (j : ℕ) (path : List ℕ) → IsRegular (e ∷ c ∷ []) (IsRewriting e s c j path)

-- ---- steps

-- a clause holds, if there is one
abbrev pub HoldsIfAny : Interp → Option Clause → Type 0
HoldsIfAny interp None = Unit {0}
HoldsIfAny interp (Some c) = Holds interp c

-- in every finite interpretation in which a right step's premises hold, its result holds
abbrev pub StepsAreSound : Type 0
StepsAreSound = (interp : Interp) (step : Step) (current first second : Option Clause) (result : Clause) → IsInterp interp →
    HoldsIfAny interp current → HoldsIfAny interp first → HoldsIfAny interp second →
    StepOk step current first second result → Holds interp result

-- a step that changes the clause before it can be taken back: its other premises and its result imply that clause
abbrev pub StepsAreReversible : Type 0
StepsAreReversible = (interp : Interp) (step : Step) (current first second : Option Clause) (result : Clause) → IsInterp interp →
    IsTrue (goes_on step) → HoldsIfAny interp first → HoldsIfAny interp second →
    StepOk step current first second result → Holds interp result → HoldsIfAny interp current

-- a step gives at most one clause of its premises
abbrev pub StepsGiveOne : Type 0
StepsGiveOne = (step : Step) (current first second : Option Clause) (c d : Clause) → StepOk step current first second c → StepOk step current first second d → c ≡ d

-- ---- registries

-- what is right over a registry is right over each that has the same clauses for the step's premises
abbrev pub AgreeOn : Registry → Registry → List Premise → Type 0
AgreeOn R S ps = AllByRecursion (λ p. (c : Clause) → R p ≡ Some c → S p ≡ Some c) ps

abbrev pub RightStepsStayRight : Type 0
RightStepsStayRight = (R S : Registry) (step : Step) (result : Clause) → AgreeOn R S (premises step) → IsRightOver R step result → IsRightOver S step result

-- it is sound, and one
abbrev pub HoldAt : Interp → Registry → List Premise → Type 0
HoldAt interp R ps = AllByRecursion (λ p. (c : Clause) → R p ≡ Some c → Holds interp c) ps

abbrev pub RightStepsAreSound : Type 0
RightStepsAreSound = (interp : Interp) (R : Registry) (step : Step) (result : Clause) → IsInterp interp → HoldAt interp R (premises step) → IsRightOver R step result → Holds interp result

abbrev pub RightStepsGiveOne : Type 0
RightStepsGiveOne = (R : Registry) (step : Step) (c d : Clause) → IsRightOver R step c → IsRightOver R step d → c ≡ d
