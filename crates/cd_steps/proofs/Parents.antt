-- Steps that are right with what one premise stands for, or two.
use Rattle.std.proofs.Common.{◌≡◌, ℕ, Bool, true, false, MatchBool, List, [], ◌∷◌, length, map, Option, Some, None, refl, sym, ap, ap₂, subst, arith}
use Rattle.std.proofs.lemmas.List.{length-map}
use Rattle.cd_clause.specs.declared.Clause.{Clause}
use Rattle.cd_steps.specs.declared.Step.{Step}
use Rattle.cd_steps.specs.Steps.{StepOk}
use Rattle.cd_steps.specs.Premises.{premises, goes_on, IsRightFrom, IsRightWith}

-- as many stand there as the step has premises
pub count_is : (os : List (Option Clause)) (s : Step) (c : Clause) → IsRightWith os s c → length (premises s) ≡ length os
count_is os s c ok =
    let e : length os ≡ length (map Some ok.clauses) = ap length ok.are in
    omega (arith, e, ok.right.0, length-map ok.clauses Some)

one_is : (x : Clause) (cs : List Clause) → Some x ∷ [] ≡ map Some cs → cs ≡ x ∷ []
one_is x [] are = absurd cc
one_is x (c ∷ []) are = let e : c ≡ x = cc in ap (λ (y : Clause). y ∷ []) e
one_is x (c ∷ d ∷ cs) are = absurd cc

two_are : (x y : Clause) (cs : List Clause) → Some x ∷ Some y ∷ [] ≡ map Some cs → cs ≡ x ∷ y ∷ []
two_are x y [] are = absurd cc
two_are x y (c ∷ []) are = absurd cc
two_are x y (c ∷ d ∷ []) are =
    let e : c ≡ x = cc in
    let f : d ≡ y = cc in
    ap₂ (λ (u v : Clause). u ∷ v ∷ []) e f
two_are x y (c ∷ d ∷ e ∷ cs) are = absurd cc

-- one premise: it is the clause before the step, or it isn't
abbrev pub AtOne : Bool → Step → Clause → Clause → Type 0
AtOne b s x c = MatchBool b (StepOk s (Some x) None None c) (StepOk s None (Some x) None c)

pub of_one : (b : Bool) (s : Step) (x c : Clause) → goes_on s ≡ b → IsRightWith (Some x ∷ []) s c → AtOne b s x c
of_one b s x c goes ok =
    let at : IsRightFrom s (x ∷ []) c = subst (λ (cs : List Clause). IsRightFrom s cs c) (one_is x ok.clauses ok.are) ok.right in
    subst (λ (t : Bool). AtOne t s x c) goes at.1

pub to_one : (b : Bool) (s : Step) (x c : Clause) → goes_on s ≡ b → length (premises s) ≡ 1 → AtOne b s x c → IsRightWith (Some x ∷ []) s c
to_one b s x c goes count at =
    record { clauses = x ∷ []; are = refl; right = (sym count, subst (λ (t : Bool). AtOne t s x c) (sym goes) at) }

-- two premises: the first is the clause before the step, or it isn't
abbrev pub AtTwo : Bool → Step → Clause → Clause → Clause → Type 0
AtTwo b s x y c = MatchBool b (StepOk s (Some x) (Some y) None c) (StepOk s None (Some x) (Some y) c)

pub of_two : (b : Bool) (s : Step) (x y c : Clause) → goes_on s ≡ b → IsRightWith (Some x ∷ Some y ∷ []) s c → AtTwo b s x y c
of_two b s x y c goes ok =
    let at : IsRightFrom s (x ∷ y ∷ []) c = subst (λ (cs : List Clause). IsRightFrom s cs c) (two_are x y ok.clauses ok.are) ok.right in
    subst (λ (t : Bool). AtTwo t s x y c) goes at.1

pub to_two : (b : Bool) (s : Step) (x y c : Clause) → goes_on s ≡ b → length (premises s) ≡ 2 → AtTwo b s x y c → IsRightWith (Some x ∷ Some y ∷ []) s c
to_two b s x y c goes count at =
    record { clauses = x ∷ y ∷ []; are = refl; right = (sym count, subst (λ (t : Bool). AtTwo t s x y c) (sym goes) at) }

-- nothing is right where a premise stands for no clause
pub none_first : (os : List (Option Clause)) (s : Step) (c : Clause) → IsRightWith (None ∷ os) s c → ⊥
none_first os s c ok = by ok.clauses ok.are
  where
    by : (cs : List Clause) → None ∷ os ≡ map Some cs → ⊥
    by [] are = cc
    by (c ∷ cs) are = cc

pub none_second : (o : Option Clause) (os : List (Option Clause)) (s : Step) (c : Clause) → IsRightWith (o ∷ None ∷ os) s c → ⊥
none_second o os s c ok = by ok.clauses ok.are
  where
    by : (cs : List Clause) → o ∷ None ∷ os ≡ map Some cs → ⊥
    by [] are = cc
    by (c ∷ []) are = cc
    by (c ∷ d ∷ cs) are = cc
