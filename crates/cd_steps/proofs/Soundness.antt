-- Each rule is sound, and so are right steps.
use Rattle.std.proofs.Common.{◌≡◌, ◌⊎◌, inl, inr, ℕ, Bool, true, false, not, nat_eq, List, [], ◌∷◌, ◌++◌, map, remove, slice_set, Option, None, Some, ap, ◌∙◌, subst, refl, sym}
use Rattle.std.specs.List.{list_any}
use Rattle.std.proofs.lemmas.Bool.{eqb-true}
use Rattle.cd_list.proofs.Numbers.{equal_itself}
use Rattle.cd_term.specs.declared.Term.{Term}
use Rattle.cd_clause.specs.declared.Atom.TheVariants.{Pred, Equal}
use Rattle.cd_clause.specs.declared.Literal.{Literal}
use Rattle.cd_clause.specs.declared.Clause.{Clause}
use Rattle.cd_clause.specs.Clauses.{IsTidied, variable_bound_of}
use Rattle.cd_clause.specs.Truth.{Interp, IsInterp, Point, IsPoint, value, atom_true, literal_true, Holds}
use Rattle.cd_clause.proofs.SoundnessLemmas.{instance_holds}
use Rattle.cd_clause.proofs.TidyLemmas.{tidy_holds}
use Rattle.cd_steps.specs.declared.Step.TheVariants.{Input, Copy, Resolve, Factor, Refl, EqFac, Para, Rewrite, Tidy}
use Rattle.cd_clause.specs.Places.{signed}
use Rattle.cd_steps.specs.Rules.{Inference, FollowsBy, higher, apart, IsResolution, IsFactoring, IsReflexivity, IsEqualityFactoring, IsParamodulation, IsRewriting}
use Rattle.cd_steps.specs.Steps.{OfOne, OfTwo, themselves}
use Rattle.cd_steps.specs.Laws.{HoldsIfAny, StepsAreSound, ResolutionsAreSound, FactoringsAreSound, ReflexivitiesAreSound, EqualityFactoringsAreSound, ParamodulationsAreSound, RewritingsAreSound}
use Rattle.cd_steps.proofs.ListLemmas.{any_at, any_left, any_right, any_of, any_set, any_written, any_elsewhere, get_before, get_other}
use Rattle.cd_steps.proofs.TruthLemmas.{follows_holds, replaced_true, signed_true, sides_true, true_sides, arguments_true}

not_both : (b c : Bool) → b ≡ c → b ≡ true → not c ≡ true → ⊥
not_both true true same h k = absurd cc
not_both true false same h k = absurd cc
not_both false c same h k = absurd cc

head_of : (x y : ℕ) → x ∷ [] ≡ y ∷ [] → x ≡ y
head_of x y e = cc

-- at a point where some literal of a clause is true, of an interpretation in which it holds
at_point : (i : Interp) (c : Clause) → Holds i c → (point : Point) → IsPoint i point → list_any (literal_true i point) c.literals ≡ true
at_point i c h point within = h.at_each point within

apart_holds : (i : Interp) (a b : Clause) → IsInterp i → Holds i b → Holds i (apart a b)
apart_holds i a b is h = instance_holds i (higher (variable_bound_of a)) b is h

pub resolution_holds : (i : Interp) (a b : Clause) (m n : ℕ) (s : List Term) (result : Clause) → IsInterp i → Holds i a → Holds i b
    → FollowsBy (IsResolution a m b n) s result → Holds i result
resolution_holds i a b m n s result is at_a at_b f =
    follows_holds i f.0 s result is f.2 (λ point within equal.
    let r = f.1 in
    let test = literal_true i point in
    let same : map (value i point) r.left ≡ map (value i point) r.right =
    let e = r.is in sym (ap (λ (x : Inference). map (value i point) x.left) e) ∙ equal ∙ ap (λ (x : Inference). map (value i point) x.right) e in
    let whole : list_any test (remove a.literals m ++ remove (apart a b).literals n) ≡ true =
    elim (any_at test a.literals m _ r.positive (at_point i a at_a point within)) [
      | inl here ↦ elim (any_at test (apart a b).literals n _ r.negative (at_point i (apart a b) (apart_holds i a b is at_b) point within)) [
        | inl too ↦ absurd (not_both (atom_true i point (Pred r.predicate r.left)) (atom_true i point (Pred r.predicate r.right)) (arguments_true i point r.predicate r.left r.right same) here too)
        | inr other ↦ any_right test (remove a.literals m) (remove (apart a b).literals n) other
      ]
      | inr other ↦ any_left test (remove a.literals m) (remove (apart a b).literals n) other
    ] in
    ap (λ (x : Inference). list_any test x.conclusion) r.is ∙ whole)

pub factoring_holds : (i : Interp) (c : Clause) (m n : ℕ) (s : List Term) (result : Clause) → IsInterp i → Holds i c
    → FollowsBy (IsFactoring c m n) s result → Holds i result
factoring_holds i c m n s result is at_c f =
    follows_holds i f.0 s result is f.2 (λ point within equal.
    let r = f.1 in
    let test = literal_true i point in
    let same : map (value i point) r.left ≡ map (value i point) r.right =
    let e = r.is in sym (ap (λ (x : Inference). map (value i point) x.left) e) ∙ equal ∙ ap (λ (x : Inference). map (value i point) x.right) e in
    let whole : list_any test (remove c.literals n) ≡ true =
    elim (any_at test c.literals n _ r.second (at_point i c at_c point within)) [
      | inl here ↦ any_of test (remove c.literals n) m _ (get_before c.literals m n _ r.ordered r.first) (arguments_true i point r.predicate r.left r.right same ∙ here)
      | inr other ↦ other
    ] in
    ap (λ (x : Inference). list_any test x.conclusion) r.is ∙ whole)

equal_values : (i : Interp) (point : Point) (inference : Inference) (vars : ℕ) (l r : Term) (ls : List Literal)
    → inference ≡ record { variables = vars; left = l ∷ []; right = r ∷ []; conclusion = ls }
    → map (value i point) inference.left ≡ map (value i point) inference.right → value i point l ≡ value i point r
equal_values i point inference vars l r ls e equal =
    head_of (value i point l) (value i point r)
    (sym (ap (λ (x : Inference). map (value i point) x.left) e) ∙ equal ∙ ap (λ (x : Inference). map (value i point) x.right) e)

pub reflexivity_holds : (i : Interp) (c : Clause) (m : ℕ) (s : List Term) (result : Clause) → IsInterp i → Holds i c
    → FollowsBy (IsReflexivity c m) s result → Holds i result
reflexivity_holds i c m s result is at_c f =
    follows_holds i f.0 s result is f.2 (λ point within equal.
    let r = f.1 in
    let test = literal_true i point in
    let same = equal_values i point f.0 _ r.left r.right _ r.is equal in
    let whole : list_any test (remove c.literals m) ≡ true =
    elim (any_at test c.literals m _ r.equation (at_point i c at_c point within)) [
      | inl here ↦ absurd (not_both (nat_eq (value i point r.left) (value i point r.right)) (nat_eq (value i point r.left) (value i point r.right)) refl
          (ap (λ (n : ℕ). nat_eq n (value i point r.right)) same ∙ equal_itself (value i point r.right)) here)
      | inr other ↦ other
    ] in
    ap (λ (x : Inference). list_any test x.conclusion) r.is ∙ whole)

-- two numbers are equal, or their test fails
tested : (m n : ℕ) (b : Bool) → nat_eq m n ≡ b → (nat_eq m n ≡ true) ⊎ (not (nat_eq m n) ≡ true)
tested m n true e = inl e
tested m n false e = inr (ap not e)

pub equality_factoring_holds : (i : Interp) (c : Clause) (m x n y : ℕ) (s : List Term) (result : Clause) → IsInterp i → Holds i c
    → FollowsBy (IsEqualityFactoring c m x n y) s result → Holds i result
equality_factoring_holds i c m x n y s result is at_c f =
    follows_holds i f.0 s result is f.2 (λ point within equal.
    let r = f.1 in
    let test = literal_true i point in
    let new = signed false (Equal r.left_other r.right_other) in
    let same = equal_values i point f.0 _ r.left r.right _ r.is equal in
    let v : Term → ℕ = value i point in
    let whole : list_any test (slice_set c.literals m new) ≡ true =
    elim (any_at test c.literals m _ r.at_first (at_point i c at_c point within)) [
      | inl here ↦ elim (tested (v r.left_other) (v r.right_other) _ refl) [
        | inl agree ↦
            any_of test (slice_set c.literals m new) n _ (get_other c.literals m n _ new r.distinct r.at_second)
            (true_sides i point y r.second r.right r.right_other r.second_sides
            (sym same ∙ sym (sides_true i point x r.first r.left r.left_other r.first_sides here)
            ∙ eqb-true (v r.left_other) (v r.right_other) agree))
        | inr differ ↦ any_written test c.literals m _ new r.at_first differ
      ]
      | inr other ↦ any_elsewhere test c.literals m _ new r.at_first other
    ] in
    ap (λ (z : Inference). list_any test z.conclusion) r.is ∙ whole)

pub paramodulation_holds : (i : Interp) (a b : Clause) (m x n : ℕ) (path : List ℕ) (s : List Term) (result : Clause) → IsInterp i → Holds i a → Holds i b
    → FollowsBy (IsParamodulation a m x b n path) s result → Holds i result
paramodulation_holds i a b m x n path s result is at_a at_b f =
    follows_holds i f.0 s result is f.2 (λ point within equal.
    let r = f.1 in
    let test = literal_true i point in
    let new = signed r.taker.positive r.changed in
    let same = equal_values i point f.0 _ r.side r.inner _ r.is equal in
    let second = at_point i (apart a b) (apart_holds i a b is at_b) point within in
    let whole : list_any test (remove a.literals m ++ slice_set (apart a b).literals n new) ≡ true =
    elim (any_at test a.literals m _ r.giver (at_point i a at_a point within)) [
      | inl here ↦
          let one = sides_true i point x r.equation r.side r.other r.sides here ∙ same in
          let as_true = replaced_true i point path r.other r.inner r.taker.atom r.changed r.there r.becomes one in
          any_right test (remove a.literals m) (slice_set (apart a b).literals n new)
          (any_set test (apart a b).literals n r.taker new r.literal (signed_true i point r.taker.positive r.taker.atom r.changed as_true) ∙ second)
      | inr other ↦ any_left test (remove a.literals m) (slice_set (apart a b).literals n new) other
    ] in
    ap (λ (z : Inference). list_any test z.conclusion) r.is ∙ whole)

-- rewriting is paramodulation
pub rewriting_holds : (i : Interp) (e c : Clause) (x n : ℕ) (path : List ℕ) (s : List Term) (result : Clause) → IsInterp i → Holds i e → Holds i c →
    FollowsBy (IsRewriting e x c n path) s result → Holds i result
rewriting_holds i e c x n path s result is at_e at_c f = paramodulation_holds i e c 0 x n path s result is at_e at_c (f.0, f.1.into, f.2)

-- premises that are there
of_one : (i : Interp) (o : Option Clause) (P : Clause → Type 0) (result : Clause) → OfOne o P → HoldsIfAny i o
    → ((c : Clause) → P c → Holds i c → Holds i result) → Holds i result
of_one i None P result ok h then = absurd ok
of_one i (Some c) P result ok h then = then c ok h

of_two : (i : Interp) (o p : Option Clause) (P : Clause → Clause → Type 0) (result : Clause) → OfTwo o p P → HoldsIfAny i o → HoldsIfAny i p
    → ((a b : Clause) → P a b → Holds i a → Holds i b → Holds i result) → Holds i result
of_two i None p P result ok h k then = absurd ok
of_two i (Some a) None P result ok h k then = absurd ok
of_two i (Some a) (Some b) P result ok h k then = then a b ok h k

if_some : (i : Interp) (o : Option Clause) (c : Clause) → o ≡ Some c → HoldsIfAny i o → Holds i c
if_some i o c is h = subst (HoldsIfAny i) is h

pub steps_are_sound : StepsAreSound
steps_are_sound i (Input index) current first second result is at_current at_first at_second ok = if_some i first result ok at_first
steps_are_sound i (Copy of) current first second result is at_current at_first at_second ok = if_some i first result ok at_first
steps_are_sound i (Resolve pos m neg n s) current first second result is at_current at_first at_second ok =
    of_two i first second (λ a b. FollowsBy (IsResolution a m b n) s result) result ok at_first at_second (λ a b f h k. resolution_holds i a b m n s result is h k f)
steps_are_sound i (Factor of m n s) current first second result is at_current at_first at_second ok =
    of_one i first (λ c. FollowsBy (IsFactoring c m n) s result) result ok at_first (λ c f h. factoring_holds i c m n s result is h f)
steps_are_sound i (Refl of m s) current first second result is at_current at_first at_second ok =
    of_one i first (λ c. FollowsBy (IsReflexivity c m) s result) result ok at_first (λ c f h. reflexivity_holds i c m s result is h f)
steps_are_sound i (EqFac of m x n y s) current first second result is at_current at_first at_second ok =
    of_one i first (λ c. FollowsBy (IsEqualityFactoring c m x n y) s result) result ok at_first (λ c f h. equality_factoring_holds i c m x n y s result is h f)
steps_are_sound i (Para giver m x taker n path s) current first second result is at_current at_first at_second ok =
    of_two i first second (λ a b. FollowsBy (IsParamodulation a m x b n path) s result) result ok at_first at_second (λ a b f h k. paramodulation_holds i a b m x n path s result is h k f)
steps_are_sound i (Rewrite by x n path s) current first second result is at_current at_first at_second ok =
    of_two i first current (λ e c. FollowsBy (IsRewriting e x c n path) (s ++ themselves c) result) result ok at_first at_current (λ e c f h k. rewriting_holds i e c x n path (s ++ themselves c) result is h k f)
steps_are_sound i Tidy current first second result is at_current at_first at_second ok =
    of_one i current (λ c. IsTidied c result) result ok at_current (λ c t h. (tidy_holds i c result is t).0 h)

-- ---- each rule's law

pub resolutions_are_sound : ResolutionsAreSound
resolutions_are_sound a m b n i s result is models f = resolution_holds i a b m n s result is models.0 models.1.0 f

pub factorings_are_sound : FactoringsAreSound
factorings_are_sound c m n i s result is models f = factoring_holds i c m n s result is models.0 f

pub reflexivities_are_sound : ReflexivitiesAreSound
reflexivities_are_sound c m i s result is models f = reflexivity_holds i c m s result is models.0 f

pub equality_factorings_are_sound : EqualityFactoringsAreSound
equality_factorings_are_sound c m x n y i s result is models f = equality_factoring_holds i c m x n y s result is models.0 f

pub paramodulations_are_sound : ParamodulationsAreSound
paramodulations_are_sound a m x b n path i s result is models f = paramodulation_holds i a b m x n path s result is models.0 models.1.0 f

pub rewritings_are_sound : RewritingsAreSound
rewritings_are_sound e x c n path i s result is models f = rewriting_holds i e c x n path s result is models.0 models.1.0 f
