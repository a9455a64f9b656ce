-- The variables of a comparison taken block by block.
use Rattle.std.proofs.Common.{◌≡◌, ℕ, ◌+◌, ◌<◌, ◌≤◌, min, Bool, true, false, nat_eq, Option, Some, None, List, ◌∷◌, ◌++◌, length, get_or, take, sum_by, sym, ap, ◌∙◌, refl, subst, arith, ◌⊎◌, inl, inr, ⊎_elim}
use Rattle.std.proofs.lemmas.Bool.{cases_lt}
use Rattle.std.proofs.lemmas.Bool.Decides.{nat_tests}
use Rattle.std.proofs.lemmas.List.{take_all}
use Rattle.std.proofs.lemmas.List.Sums.{sum_by-cons, sum_by-append, sum_by_more}
use Rattle.cd_term.specs.declared.Term.{Term}
use Rattle.cd_term.specs.declared.Term.TheVariants.{Var, App}
use Rattle.cd_kbo.specs.declared.order.Order.{Order}
use Rattle.cd_kbo.specs.Kbo.{occurrences, Covers, Every, FirstDifference, GreaterOn, Greater, by_weight, by_head, by_argument}
use Rattle.std.specs.Prelude.{IsTrue, ◌↔◌}
use Rattle.cd_kbo.specs.Blocks.{InBlock, IsNext, least_of}
use Rattle.cd_kbo.proofs.KboEquations.{occurrences-Var, occurrences-App}
use Rattle.cd_kbo.proofs.WalkLemmas.{covers_of, at_argument}

-- each variable of X is one of V or of W, or doesn't occur
abbrev Split : (V W X : ℕ → Type 0) → Term → Type 0
Split V W X t = (k : ℕ) → X k → (V k ⊎ W k) ⊎ (occurrences k t ≡ 0)

both_cover : (V W X : ℕ → Type 0) (s t : Term) → Split V W X t → Covers V s t → Covers W s t → Covers X s t
both_cover V W X s t split c d = record {
  at_each = λ k x. elim (split k x) as (λ _. occurrences k t ≤ occurrences k s) [
    | inl one ↦ elim one as (λ _. occurrences k t ≤ occurrences k s) [ inl v ↦ c.at_each k v | inr w ↦ d.at_each k w ]
    | inr none ↦ omega (arith, none)
  ];
}

-- what doesn't occur in a term doesn't occur in its arguments
absent_inside : (k : ℕ) (s t a b : Term) → FirstDifference s t a b → occurrences k t ≡ 0 → occurrences k b ≡ 0
absent_inside k s t a b d none = omega (
  arith,
  none,
  ap (occurrences k) d.right,
  occurrences-App k d.head (d.before ++ b ∷ d.after_b),
  sum_by-append (occurrences k) d.before (b ∷ d.after_b),
  sum_by-cons (occurrences k) b d.after_b,
)

split_inside : (V W X : ℕ → Type 0) (s t a b : Term) → FirstDifference s t a b → Split V W X t → Split V W X b
split_inside V W X s t a b d split k x = elim (split k x) as (λ _. (V k ⊎ W k) ⊎ (occurrences k b ≡ 0)) [
  | inl one ↦ inl one
  | inr none ↦ inr (absent_inside k s t a b d none)
]

-- what is greater on V and on W is greater on both
pub joined : (V W X : ℕ → Type 0) (o : Order) (s t : Term) → Split V W X t → GreaterOn V o s t → GreaterOn W o s t → GreaterOn X o s t
joined V W X o s t split (by_weight _ _ c w) k = by_weight s t (both_cover V W X s t split c (covers_of W o s t k)) w
joined V W X o s t split (by_head _ _ f g ss ts c w p q h) k =
    by_head s t f g ss ts (both_cover V W X s t split c (covers_of W o s t k)) w p q h
joined V W X o s t split (by_argument _ _ a b c w d g) k =
    by_argument s t a b (both_cover V W X s t split c (covers_of W o s t k)) w d
    (joined V W X o a b (split_inside V W X s t a b d split) g (at_argument W o s t a b w d k))

-- and on fewer variables
pub fewer : (V X : ℕ → Type 0) (o : Order) (s t : Term) → ((k : ℕ) → X k → V k) → GreaterOn V o s t → GreaterOn X o s t
fewer V X o s t all k = joined V V X o s t (λ n x. inl (inl (all n x))) k k

abbrev pub Below : ℕ → ℕ → Type 0
Below n k = k < n

pub block_of : (o : Order) (s t : Term) (base : ℕ) → Greater o s t → GreaterOn (InBlock base) o s t
block_of o s t base = fewer Every (InBlock base) o s t (λ k v. tt)

pub refused : (o : Order) (s t : Term) (base : ℕ) (b : Bool) → (IsTrue b ↔ GreaterOn (InBlock base) o s t) → b ≡ false →
    IsTrue false ↔ Greater o s t
refused o s t base b decides no_more = (λ h. absurd (differ h), λ g. sym no_more ∙ decides.1 (block_of o s t base g))
  where
    differ : false ≡ true → ⊥
    differ e = cc

pub first_block : (o : Order) (s t : Term) → GreaterOn (InBlock 0) o s t → GreaterOn (Below 16) o s t
first_block o s t = fewer (InBlock 0) (Below 16) o s t (λ k v. record { above = omega arith; below = omega (arith, v) })

pub next_block : (o : Order) (s t : Term) (from n : ℕ) → ((k : ℕ) → from ≤ k → k < n → occurrences k t ≡ 0) →
    GreaterOn (Below from) o s t → GreaterOn (InBlock n) o s t → GreaterOn (Below (n + 16)) o s t
next_block o s t from n none = joined (Below from) (InBlock n) (Below (n + 16)) o s t split
  where
    split : (k : ℕ) → k < n + 16 → ((k < from) ⊎ InBlock n k) ⊎ (occurrences k t ≡ 0)
    split k lt = ⊎_elim {C = ((k < from) ⊎ InBlock n k) ⊎ (occurrences k t ≡ 0)}
        (λ (old : k < from). inl (inl old))
        (λ (past : from ≤ k). ⊎_elim {C = ((k < from) ⊎ InBlock n k) ⊎ (occurrences k t ≡ 0)}
        (λ (before : k < n). inr (none k past before))
        (λ (here : n ≤ k). inl (inr (record { above = here; below = lt })))
        (cases_lt k n))
        (cases_lt k from)

pub no_block : (o : Order) (s t : Term) (from : ℕ) → ((k : ℕ) → from ≤ k → occurrences k t ≡ 0) →
    GreaterOn (Below from) o s t → Greater o s t
no_block o s t from none k = joined (Below from) (Below from) Every o s t split k k
  where
    split : (k : ℕ) → Unit {0} → ((k < from) ⊎ (k < from)) ⊎ (occurrences k t ≡ 0)
    split k u = ⊎_elim {C = ((k < from) ⊎ (k < from)) ⊎ (occurrences k t ≡ 0)}
        (λ (old : k < from). inl (inl old))
        (λ (past : from ≤ k). inr (none k past))
        (cases_lt k from)

-- The next variable.
pub next_same : (from : ℕ) (a b : ℕ → ℕ) (r : Option ℕ) → ((k : ℕ) → a k ≡ b k) → IsNext from a r → IsNext from b r
next_same from a b None same next = λ k le. omega (arith, same k, next k le)
next_same from a b (Some n) same next =
    (next.0, omega (arith, same n, next.1), λ k le lt. omega (arith, same k, next.2 k le lt))

pub next_least : (from : ℕ) (a b : ℕ → ℕ) (p q : Option ℕ) → IsNext from a p → IsNext from b q → IsNext from (λ k. a k + b k) (least_of p q)
next_least from a b None None h k = λ n le. omega (arith, h n le, k n le)
next_least from a b None (Some m) h k = (k.0, omega (arith, k.1), λ n le lt. omega (arith, h n le, k.2 n le lt))
next_least from a b (Some m) None h k = (h.0, omega (arith, h.1), λ n le lt. omega (arith, k n le, h.2 n le lt))
next_least from a b (Some m) (Some n) h k = (omega (arith, h.0, k.0), least_counts, before)
  where
    least_counts : 1 ≤ a (min m n) + b (min m n)
    least_counts = ⊎_elim {C = 1 ≤ a (min m n) + b (min m n)}
        (λ (lt : m < n). let is : min m n ≡ m = omega arith in omega (arith, h.1, ap a is))
        (λ (ge : n ≤ m). let is : min m n ≡ n = omega arith in omega (arith, k.1, ap b is))
        (cases_lt m n)

    before : (j : ℕ) → from ≤ j → j < min m n → a j + b j ≡ 0
    before j le lt =
        let below_m : j < m = omega arith in
        let below_n : j < n = omega arith in
        omega (arith, h.2 j le below_m, k.2 j le below_n)

pub next_more : (from : ℕ) (ts : List Term) (i : ℕ) (x y : Term) (p q r : Option ℕ) → i < length ts → x ≡ get_or ts i x → y ≡ x →
    IsNext from (λ k. sum_by (occurrences k) (take i ts)) p → IsNext from (λ k. occurrences k y) q → r ≡ least_of p q →
    IsNext from (λ k. sum_by (occurrences k) (take (i + 1) ts)) r
next_more from ts i x y p q r lt at seen so_far more is =
    subst (IsNext from (λ k. sum_by (occurrences k) (take (i + 1) ts))) (sym is)
    (next_same from (λ k. sum_by (occurrences k) (take i ts) + occurrences k y) (λ k. sum_by (occurrences k) (take (i + 1) ts)) (least_of p q)
    (λ k. omega (arith, sum_by_more (occurrences k) ts i x lt, ap (occurrences k) at, ap (occurrences k) seen))
    (next_least from (λ k. sum_by (occurrences k) (take i ts)) (λ k. occurrences k y) p q so_far more))

pub next_all : (from f : ℕ) (ts : List Term) (i : ℕ) (r : Option ℕ) → length ts ≤ i →
    IsNext from (λ k. sum_by (occurrences k) (take i ts)) r → IsNext from (λ k. occurrences k (App f ts)) r
next_all from f ts i r past =
    next_same from (λ k. sum_by (occurrences k) (take i ts)) (λ k. occurrences k (App f ts)) r
    (λ k. ap (sum_by (occurrences k)) (take_all i ts past) ∙ sym (occurrences-App k f ts))

other_variable : (n k : ℕ) → n < k → occurrences k (Var n) ≡ 0
other_variable n k lt = at (nat_eq n k) refl
  where
    at : (b : Bool) → nat_eq n k ≡ b → occurrences k (Var n) ≡ 0
    at b e = grind (arith, nat_tests, occurrences-Var k n)

lower_variable : (n k : ℕ) → k < n → occurrences k (Var n) ≡ 0
lower_variable n k lt = at (nat_eq n k) refl
  where
    at : (b : Bool) → nat_eq n k ≡ b → occurrences k (Var n) ≡ 0
    at b e = grind (arith, nat_tests, occurrences-Var k n)

own_variable : (n : ℕ) → 1 ≤ occurrences n (Var n)
own_variable n = at (nat_eq n n) refl
  where
    at : (b : Bool) → nat_eq n n ≡ b → 1 ≤ occurrences n (Var n)
    at b e = grind (arith, nat_tests, occurrences-Var n n)

pub next_none : (from n : ℕ) → n < from → IsNext from (λ k. occurrences k (Var n)) None
next_none from n lt k le = other_variable n k (omega arith)

pub next_here : (from n : ℕ) → from ≤ n → IsNext from (λ k. occurrences k (Var n)) (Some n)
next_here from n le = (le, own_variable n, λ k past lt. lower_variable n k lt)
