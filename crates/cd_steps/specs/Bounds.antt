-- Steps within bounds, and what a step gives.
-- Beyond the headline: no clause of `prove` reaches AnswersGiven.
use Rattle.std.specs.Prelude.{◌≤◌, List, [], map, Option, Some, None, Result, Ok, Err}
use Rattle.cd_term.specs.declared.Term.{Term}
use Rattle.cd_term.specs.declared.TermFault.{TermFault}
use Rattle.cd_term.specs.declared.TermFault.TheVariants.{OutOfBounds, Memory}
use Rattle.cd_term.specs.Terms.{bound_of, greatest, AreWithin}
use Rattle.cd_clause.specs.declared.Clause.{Clause}
use Rattle.cd_clause.specs.Clauses.{IsWithinBounds}
use Rattle.cd_steps.specs.declared.Step.{Step}
use Rattle.cd_steps.specs.declared.Step.TheVariants.{Input, Copy, Resolve, Factor, Refl, EqFac, Para, Rewrite, Tidy}

-- the substitution of a step; it is empty where the step has none
abbrev pub subst_of : Step → List Term
subst_of (Input index) = []
subst_of (Copy of) = []
subst_of (Resolve pos i neg j subst) = subst
subst_of (Factor of i j subst) = subst
subst_of (Refl of i subst) = subst
subst_of (EqFac of i s j z subst) = subst
subst_of (Para giver i s taker j at subst) = subst
subst_of (Rewrite by s j at subst) = subst
subst_of Tidy = []

-- a substitution is within bounds: the sizes of its terms together, the depth of each of them, and their
-- variables
abbrev pub IsSubstWithin : List Term → Type 0
IsSubstWithin s = AreWithin 65535 1000 s × (greatest (map bound_of s) ≤ 65536)

-- a step is within bounds where its substitution and its clause are
abbrev pub IsStepWithin : List Term → Clause → Type 0
IsStepWithin s c = IsSubstWithin s × IsWithinBounds c

-- a clause that is right, within bounds; or none, where none is right; or one is right and out of bounds
abbrev pub AnswersGiven : (Clause → Type 0) → (Clause → Type 0) → Result (Option Clause) TermFault → Type 0
AnswersGiven IsRight IsFine (Ok None) = (c : Clause) → IsRight c → ⊥
AnswersGiven IsRight IsFine (Ok (Some c)) = IsRight c × IsFine c
AnswersGiven IsRight IsFine (Err OutOfBounds) = (c : Clause) × IsRight c × (IsFine c → ⊥)
AnswersGiven IsRight IsFine (Err Memory) = Unit {0}
