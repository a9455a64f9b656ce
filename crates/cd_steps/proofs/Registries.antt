-- Steps over registries of clauses: they stay right as a registry grows, are sound, and give one clause.
use Rattle.std.proofs.Common.{◌≡◌, ℕ, zero, suc, Bool, true, false, MatchBool, List, [], ◌∷◌, map, slice_get, Option, None, Some, sym, ap₂, ◌∙◌, subst, refl}
use Rattle.std.specs.List.{AllByRecursion}
use Rattle.std.proofs.lemmas.Option.{same_Some}
use Rattle.cd_clause.specs.declared.Clause.{Clause}
use Rattle.cd_clause.specs.Truth.{Interp, IsInterp, Holds}
use Rattle.cd_steps.specs.declared.Premise.{Premise}
use Rattle.cd_steps.specs.declared.Step.{Step}
use Rattle.cd_steps.specs.Steps.{StepOk}
use Rattle.cd_steps.specs.Premises.{premises, goes_on, Registry, IsRightFrom}
use Rattle.cd_steps.specs.Laws.{HoldsIfAny, AgreeOn, HoldAt, RightStepsStayRight, RightStepsAreSound, RightStepsGiveOne}
use Rattle.cd_steps.proofs.Soundness.{steps_are_sound}
use Rattle.cd_steps.proofs.Unique.{steps_give_one}

pub agree : (R S : Registry) (ps : List Premise) (cs : List Clause) → AgreeOn R S ps → map R ps ≡ map Some cs → map S ps ≡ map Some cs
agree R S [] cs agrees is = is
agree R S (p ∷ ps) [] agrees is = absurd cc
agree R S (p ∷ ps) (c ∷ cs) agrees is =
    let here : R p ≡ Some c = cc in
    let there : map R ps ≡ map Some cs = cc in
    ap₂ (λ (o : Option Clause) (os : List (Option Clause)). o ∷ os) (agrees.0 c here) (agree R S ps cs agrees.1 there)

pub right_steps_stay_right : RightStepsStayRight
right_steps_stay_right R S step result agrees ok =
    record { clauses = ok.clauses; are = agree R S (premises step) ok.clauses agrees ok.are; right = ok.right }

all_hold : (interp : Interp) (R : Registry) (ps : List Premise) (cs : List Clause) → HoldAt interp R ps → map R ps ≡ map Some cs → AllByRecursion (Holds interp) cs
all_hold interp R ps [] hold is = tt
all_hold interp R [] (c ∷ cs) hold is = absurd cc
all_hold interp R (p ∷ ps) (c ∷ cs) hold is =
    let here : R p ≡ Some c = cc in
    let there : map R ps ≡ map Some cs = cc in
    (hold.0 c here, all_hold interp R ps cs hold.1 there)

holds_at : (interp : Interp) (cs : List Clause) (k : ℕ) → AllByRecursion (Holds interp) cs → HoldsIfAny interp (slice_get cs k)
holds_at interp [] k hold = tt
holds_at interp (c ∷ cs) zero hold = hold.0
holds_at interp (c ∷ cs) (suc k) hold = holds_at interp cs k hold.1

-- what is right from clauses that hold holds
pub right_from_holds : (interp : Interp) (step : Step) (cs : List Clause) (c : Clause) → IsInterp interp → AllByRecursion (Holds interp) cs → IsRightFrom step cs c → Holds interp c
right_from_holds interp step cs c is all ok = by (goes_on step) ok.1
  where
    at : (k : ℕ) → HoldsIfAny interp (slice_get cs k)
    at k = holds_at interp cs k all

    by : (b : Bool) → MatchBool b (StepOk step (slice_get cs 0) (slice_get cs 1) (slice_get cs 2) c) (StepOk step None (slice_get cs 0) (slice_get cs 1) c) → Holds interp c
    by true right = steps_are_sound interp step (slice_get cs 0) (slice_get cs 1) (slice_get cs 2) c is (at 0) (at 1) (at 2) right
    by false right = steps_are_sound interp step None (slice_get cs 0) (slice_get cs 1) c is tt (at 0) (at 1) right

pub right_steps_are_sound : RightStepsAreSound
right_steps_are_sound interp R step result is hold ok = right_from_holds interp step ok.clauses result is (all_hold interp R (premises step) ok.clauses hold ok.are) ok.right

-- ---- what follows of a registry

-- a registry agrees with another where it does at every premise
pub agree_everywhere : (R S : Registry) (ps : List Premise) → ((p : Premise) (c : Clause) → R p ≡ Some c → S p ≡ Some c) → AgreeOn R S ps
agree_everywhere R S [] agrees = tt
agree_everywhere R S (p ∷ ps) agrees = (agrees p, agree_everywhere R S ps agrees)

-- each premise of a right step stands for a clause
pub each_there : (R : Registry) (ps : List Premise) (cs : List Clause) → map R ps ≡ map Some cs → AllByRecursion (λ p. (c : Clause) × (R p ≡ Some c)) ps
each_there R [] cs is = tt
each_there R (p ∷ ps) [] is = absurd cc
each_there R (p ∷ ps) (c ∷ cs) is =
    let here : R p ≡ Some c = cc in
    let there : map R ps ≡ map Some cs = cc in
    ((c, here), each_there R ps cs there)

same_clauses : (cs ds : List Clause) → map Some cs ≡ map Some ds → cs ≡ ds
same_clauses [] [] is = refl
same_clauses [] (d ∷ ds) is = absurd cc
same_clauses (c ∷ cs) [] is = absurd cc
same_clauses (c ∷ cs) (d ∷ ds) is =
    let here : Some c ≡ Some d = cc in
    let there : map Some cs ≡ map Some ds = cc in
    ap₂ (λ (x : Clause) (xs : List Clause). x ∷ xs) (same_Some c d here) (same_clauses cs ds there)

pub right_from_one : (step : Step) (cs : List Clause) (c d : Clause) → IsRightFrom step cs c → IsRightFrom step cs d → c ≡ d
right_from_one step cs c d ok too = by (goes_on step) ok.1 too.1
  where
    by : (b : Bool)
        → MatchBool b (StepOk step (slice_get cs 0) (slice_get cs 1) (slice_get cs 2) c) (StepOk step None (slice_get cs 0) (slice_get cs 1) c)
        → MatchBool b (StepOk step (slice_get cs 0) (slice_get cs 1) (slice_get cs 2) d) (StepOk step None (slice_get cs 0) (slice_get cs 1) d)
        → c ≡ d
    by true x y = steps_give_one step (slice_get cs 0) (slice_get cs 1) (slice_get cs 2) c d x y
    by false x y = steps_give_one step None (slice_get cs 0) (slice_get cs 1) c d x y

pub right_steps_give_one : RightStepsGiveOne
right_steps_give_one R step c d ok too =
    right_from_one step ok.clauses c d ok.right
    (subst (λ (l : List Clause). IsRightFrom step l d) (sym (same_clauses ok.clauses too.clauses (sym ok.are ∙ too.are))) too.right)
