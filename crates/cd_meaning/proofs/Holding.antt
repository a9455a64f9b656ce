-- Lists of tables and literals, one item at a time; and when a clause holds.
use Rattle.std.proofs.Common.{◌≡◌, ℕ, zero, suc, ◌+◌, ◌<◌, ◌≤◌, Bool, false, List, [], ◌∷◌, ◌++◌, map, take, length, get_or, ap, ◌∙◌, sym, subst, arith}
use Rattle.std.specs.List.{list_any, AllByRecursion}
use Rattle.std.proofs.lemmas.List.{take_more, take_all, map-append}
use Rattle.cd_list.proofs.Lists.{all_append}
use Rattle.cd_clause.specs.declared.Literal.{Literal}
use Rattle.cd_clause.specs.declared.Clause.{Clause}
use Rattle.cd_clause.specs.Clauses.{variable_bound_of}
use Rattle.cd_clause.specs.Truth.{Interp, Point, IsPoint, Holds}
use Rattle.cd_meaning.specs.Interps.{point_of, IsTrueAt}
use Rattle.cd_clause.proofs.Agreement.{Agree, same_truth}
use Rattle.cd_meaning.proofs.Ranks.{first_of, first_at}

pub all_more : {A B : Type 0} (f : A → B) (P : B → Type 0) (xs : List A) (i : ℕ) (x : A) → i < length xs → x ≡ get_or xs i x → AllByRecursion P (map f (take i xs)) → P (f x) → AllByRecursion P (map f (take (i + 1) xs))
all_more {A} f P xs i x lt is so_far here =
    subst (AllByRecursion P) (sym (ap (map f) (take_more xs i x lt ∙ ap (λ (y : A). take i xs ++ y ∷ []) (sym is)) ∙ map-append f (take i xs) (x ∷ [])))
    (all_append P (map f (take i xs)) (f x ∷ []) so_far (here, tt))

pub all_at : {A B : Type 0} (f : A → B) (P : B → Type 0) (xs : List A) (i : ℕ) (x : A) → i < length xs → AllByRecursion P (map f xs) → P (f (get_or xs i x))
all_at f P [] i x lt all = absurd (omega arith)
all_at f P (y ∷ xs) zero x lt all = all.0
all_at f P (y ∷ xs) (suc i) x lt all = all_at f P xs i x (omega arith) all.1

pub all_whole : {A B : Type 0} (f : A → B) (P : B → Type 0) (xs : List A) (i : ℕ) → length xs ≤ i → AllByRecursion P (map f (take i xs)) → AllByRecursion P (map f xs)
all_whole {A} f P xs i le all = subst (λ (ys : List A). AllByRecursion P (map f ys)) (take_all i xs le) all

-- where none of the items that were read passes a test, and they are all, none passes
pub none_whole : {A : Type 0} (test : A → Bool) (xs : List A) (i : ℕ) → length xs ≤ i → list_any test (take i xs) ≡ false → list_any test xs ≡ false
none_whole {A} test xs i le none = ap (list_any test) (sym (take_all i xs le)) ∙ none

-- a clause that is true at each list of elements holds
pub holds_by : (i : Interp) (c : Clause) (ls : List Literal) (long : ℕ) → ls ≡ c.literals → long ≡ variable_bound_of c → ((p : Point) → IsPoint i p → IsTrueAt i ls (point_of (first_of long p))) → Holds i c
unfolding Agree
holds_by i c ls long are is all = record {
  at_each = λ p each.
      same_truth i p (point_of (first_of long p)) c.literals (λ k lt. sym (first_at long p k (omega (arith, is, lt))))
      ∙ subst (λ (ms : List Literal). IsTrueAt i ms (point_of (first_of long p))) are (all p each);
}
