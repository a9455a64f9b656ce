-- Steps that are right with the clauses of their parents.
use Rattle.std.proofs.Common.{◌≡◌, ◌≢◌, ℕ, Bool, true, false, List, [], ◌∷◌, length, map, Option, Some, None, refl, sym, ap, ap₂, ◌∙◌, subst, arith, ◌⊎◌, inl, inr}
use Rattle.std.specs.Prelude.{◌↔◌, IsTrue, slice_index}
use Rattle.std.proofs.lemmas.List.{length-map}
use Rattle.cd_clause.specs.declared.Clause.{Clause}
use Rattle.cd_steps.specs.declared.Step.{Step}
use Rattle.cd_steps.specs.declared.Step.TheVariants.{Input, Copy, Resolve, Factor, Refl, EqFac, Para, Rewrite, Tidy}
use Rattle.cd_steps.specs.Premises.{premises, goes_on, IsRightWith}
use Rattle.cd_steps.proofs.Parents.{count_is, AtOne, of_one, to_one, AtTwo, of_two, to_two, none_first, none_second}
use Rattle.cd_check.specs.Accepted.{clause_of_line}

-- with as many premises as are asked for
pub with_one : (b : Bool) (t : Bool) (s : Step) (x c : Clause) → goes_on s ≡ b → length (premises s) ≡ 1 → IsTrue t ↔ AtOne b s x c → IsTrue t ↔ IsRightWith (Some x ∷ []) s c
with_one b t s x c goes count iff = (λ yes. to_one b s x c goes count (iff.0 yes), λ ok. iff.1 (of_one b s x c goes ok))

pub not_with_one : (s : Step) (x c : Clause) → length (premises s) ≢ 1 → IsTrue false ↔ IsRightWith (Some x ∷ []) s c
not_with_one s x c many = (λ yes. absurd cc, λ ok. absurd (many (count_is (Some x ∷ []) s c ok)))

pub with_two : (b : Bool) (t : Bool) (s : Step) (x y c : Clause) → goes_on s ≡ b → length (premises s) ≡ 2 → IsTrue t ↔ AtTwo b s x y c → IsTrue t ↔ IsRightWith (Some x ∷ Some y ∷ []) s c
with_two b t s x y c goes count iff = (λ yes. to_two b s x y c goes count (iff.0 yes), λ ok. iff.1 (of_two b s x y c goes ok))

pub not_with_two : (s : Step) (x y c : Clause) → length (premises s) ≢ 2 → IsTrue false ↔ IsRightWith (Some x ∷ Some y ∷ []) s c
not_with_two s x y c few = (λ yes. absurd cc, λ ok. absurd (few (count_is (Some x ∷ Some y ∷ []) s c ok)))

-- with what the parents stand for
pub from_one : (o : Option Clause) (t : Bool) (s : Step) (x c : Clause) → Some x ≡ o → IsTrue t ↔ IsRightWith (Some x ∷ []) s c → IsTrue t ↔ IsRightWith (o ∷ []) s c
from_one o t s x c is iff = subst (λ (u : Option Clause). IsTrue t ↔ IsRightWith (u ∷ []) s c) is iff

pub from_none : (o : Option Clause) (s : Step) (c : Clause) → None ≡ o → IsTrue false ↔ IsRightWith (o ∷ []) s c
from_none o s c is = (λ yes. absurd cc, λ ok. absurd (none_first [] s c (subst (λ (u : Option Clause). IsRightWith (u ∷ []) s c) (sym is) ok)))

pub from_two : (o u : Option Clause) (t : Bool) (s : Step) (x y c : Clause) → Some x ≡ o → Some y ≡ u → IsTrue t ↔ IsRightWith (Some x ∷ Some y ∷ []) s c → IsTrue t ↔ IsRightWith (o ∷ u ∷ []) s c
from_two o u t s x y c first second iff =
    subst (λ (w : Option Clause). IsTrue t ↔ IsRightWith (o ∷ w ∷ []) s c) second (subst (λ (w : Option Clause). IsTrue t ↔ IsRightWith (w ∷ Some y ∷ []) s c) first iff)

pub from_first_none : (o u : Option Clause) (s : Step) (c : Clause) → None ≡ o → IsTrue false ↔ IsRightWith (o ∷ u ∷ []) s c
from_first_none o u s c is = (λ yes. absurd cc, λ ok. absurd (none_first (u ∷ []) s c (subst (λ (w : Option Clause). IsRightWith (w ∷ u ∷ []) s c) (sym is) ok)))

pub from_second_none : (o u : Option Clause) (s : Step) (c : Clause) → None ≡ u → IsTrue false ↔ IsRightWith (o ∷ u ∷ []) s c
from_second_none o u s c is = (λ yes. absurd cc, λ ok. absurd (none_second o [] s c (subst (λ (w : Option Clause). IsRightWith (o ∷ w ∷ []) s c) (sym is) ok)))

one_or_two : (s : Step) → (length (premises s) ≡ 1) ⊎ (length (premises s) ≡ 2)
one_or_two (Input index) = inl refl
one_or_two (Copy of) = inl refl
one_or_two (Resolve pos i neg j subst) = inr refl
one_or_two (Factor of i j subst) = inl refl
one_or_two (Refl of i subst) = inl refl
one_or_two (EqFac of i s j z subst) = inl refl
one_or_two (Para giver i s taker j at subst) = inr refl
one_or_two (Rewrite by s j at subst) = inr refl
one_or_two Tidy = inl refl

list_of_one : (ns : List ℕ) → length ns ≡ 1 → slice_index ns 0 ∷ [] ≡ ns
list_of_one [] is = absurd (omega arith)
list_of_one (n ∷ []) is = refl
list_of_one (m ∷ n ∷ ns) is = absurd (omega arith)

list_of_two : (ns : List ℕ) → length ns ≡ 2 → slice_index ns 0 ∷ slice_index ns 1 ∷ [] ≡ ns
list_of_two [] is = absurd (omega arith)
list_of_two (m ∷ []) is = absurd (omega arith)
list_of_two (m ∷ n ∷ []) is = refl
list_of_two (l ∷ m ∷ n ∷ ns) is = absurd (omega arith)

pub parents_one : (cs : List Clause) (ns : List ℕ) (t : Bool) (s : Step) (c : Clause) → length ns ≡ 1 → IsTrue t ↔ IsRightWith (clause_of_line cs (slice_index ns 0) ∷ []) s c → IsTrue t ↔ IsRightWith (map (clause_of_line cs) ns) s c
parents_one cs ns t s c is iff = subst (λ (ms : List ℕ). IsTrue t ↔ IsRightWith (map (clause_of_line cs) ms) s c) (list_of_one ns is) iff

pub parents_two : (cs : List Clause) (ns : List ℕ) (t : Bool) (s : Step) (c : Clause) → length ns ≡ 2
    → IsTrue t ↔ IsRightWith (clause_of_line cs (slice_index ns 0) ∷ clause_of_line cs (slice_index ns 1) ∷ []) s c → IsTrue t ↔ IsRightWith (map (clause_of_line cs) ns) s c
parents_two cs ns t s c is iff = subst (λ (ms : List ℕ). IsTrue t ↔ IsRightWith (map (clause_of_line cs) ms) s c) (list_of_two ns is) iff

pub parents_other : (cs : List Clause) (ns : List ℕ) (s : Step) (c : Clause) → length ns ≢ 1 → length ns ≢ 2 → IsTrue false ↔ IsRightWith (map (clause_of_line cs) ns) s c
parents_other cs ns s c not_one not_two = (
  λ yes. absurd cc,
  λ ok.
      let count : length (premises s) ≡ length ns = count_is (map (clause_of_line cs) ns) s c ok ∙ length-map ns (clause_of_line cs) in
      elim (one_or_two s) [
        | inl one ↦ absurd (not_one (sym count ∙ one))
        | inr two ↦ absurd (not_two (sym count ∙ two))
      ],
)
