-- Numbers and what was posted under them, and the letters of one sender.
use Rattle.std.proofs.Common.{◌≡◌, ◌≢◌, ℕ, zero, suc, ◌+◌, ◌-◌, ◌<◌, ◌==◌, ◌||◌, Bool, true, false, cond, List, [], ◌∷◌, ◌++◌, refl, sym, ap, ◌∙◌, arith, append-nil, eq-eqb, ne_eqb, true≢false}
use Rattle.std.proofs.lemmas.Bool.{eqb-true}
use Rattle.std.proofs.lemmas.List.Elements.{filter-append}
use Rattle.cd_mailbox.specs.declared.rule.Part.{Part}
use Rattle.cd_mailbox.specs.Views.{letters_of, part, has_in, posted_in, parts_from, put_in, first_part, other_parts}

pub has_from_below : (L : Type 0) (n a k : ℕ) → n < a → has_in n (parts_from {L = L} a k) ≡ false
has_from_below L n a zero lt = refl
has_from_below L n a (suc k) lt = let no : (a == n) ≡ false = ne_eqb a n (λ e. omega arith) in simp no (has_from_below L n (a + 1) k (omega arith))

pub below_from : (L : Type 0) (n a k : ℕ) → has_in n (parts_from {L = L} a k) ≡ true → n < a + k
below_from L n a zero e = absurd (true≢false (sym e))
below_from L n a (suc k) e = by (a == n) refl e (below_from L n (a + 1) k)
  where
    by : (b : Bool) → (a == n) ≡ b → (b || has_in n (parts_from {L = L} (a + 1) k)) ≡ true → (has_in n (parts_from {L = L} (a + 1) k) ≡ true → n < (a + 1) + k) → n < a + suc k
    by true is e ih = let f = eqb-true a n is in omega arith
    by false is e ih = let lt = ih e in omega arith

module _ {L : Type 0} where
  -- ---- one letter more under the number n

  pub has_put : (n m : ℕ) (x : L) (ps : List (Part L)) → has_in m (put_in n x ps) ≡ has_in m ps
  has_put n m x [] = refl
  has_put n m x (p ∷ ps) =
      elim (p.number == n) as (λ b. has_in m (cond b (part p.number (p.posted ++ x ∷ []) ∷ ps) (p ∷ put_in n x ps)) ≡ has_in m (p ∷ ps)) [
        | true ↦ refl
        | false ↦ ap (λ r. (p.number == m) || r) (has_put n m x ps)
      ]

  pub put_same : (n : ℕ) (x : L) (ps : List (Part L)) → has_in n ps ≡ true → posted_in n (put_in n x ps) ≡ posted_in n ps ++ x ∷ []
  put_same n x [] e = absurd (true≢false (sym e))
  put_same n x (p ∷ ps) e = by (p.number == n) refl e (put_same n x ps)
    where
      by : (b : Bool) → (p.number == n) ≡ b → has_in n (p ∷ ps) ≡ true → (has_in n ps ≡ true → posted_in n (put_in n x ps) ≡ posted_in n ps ++ x ∷ []) → posted_in n (put_in n x (p ∷ ps)) ≡ posted_in n (p ∷ ps) ++ x ∷ []
      by true is e ih = simp is
      by false is e ih = let e' : has_in n ps ≡ true = simp is at e in simp is (ih e')

  pub put_other : (n m : ℕ) (x : L) (ps : List (Part L)) → n ≢ m → posted_in m (put_in n x ps) ≡ posted_in m ps
  put_other n m x [] apart = refl
  put_other n m x (p ∷ ps) apart = by (p.number == n) refl (put_other n m x ps apart)
    where
      by : (b : Bool) → (p.number == n) ≡ b → posted_in m (put_in n x ps) ≡ posted_in m ps → posted_in m (put_in n x (p ∷ ps)) ≡ posted_in m (p ∷ ps)
      by true is ih =
          let no : (p.number == m) ≡ false = ne_eqb p.number m (λ e. apart (sym (eqb-true p.number n is) ∙ e)) in
          simp (is, no)
      by false is ih = simp is (ap (λ r. cond (p.number == m) p.posted r) ih)

  -- ---- two tables, one behind the other

  pub has_append : (n : ℕ) (ps qs : List (Part L)) → has_in n (ps ++ qs) ≡ (has_in n ps || has_in n qs)
  has_append n [] qs = refl
  has_append n (p ∷ ps) qs = elim (p.number == n) as (λ b. (b || has_in n (ps ++ qs)) ≡ ((b || has_in n ps) || has_in n qs)) [
    | true ↦ refl
    | false ↦ has_append n ps qs
  ]

  pub posted_append : (n : ℕ) (ps qs : List (Part L)) → posted_in n (ps ++ qs) ≡ cond (has_in n ps) (posted_in n ps) (posted_in n qs)
  posted_append n [] qs = refl
  posted_append n (p ∷ ps) qs = elim (p.number == n) as (λ b. cond b p.posted (posted_in n (ps ++ qs)) ≡ cond (b || has_in n ps) (cond b p.posted (posted_in n ps)) (posted_in n qs)) [
    | true ↦ refl
    | false ↦ posted_append n ps qs
  ]

  -- ---- numbers from a on

  pub posted_from : (n a k : ℕ) → posted_in n (parts_from {L = L} a k) ≡ []
  posted_from n a zero = refl
  posted_from n a (suc k) = elim (a == n) as (λ b. cond b [] (posted_in n (parts_from {L = L} (a + 1) k)) ≡ []) [ true ↦ refl | false ↦ posted_from n (a + 1) k ]

  parts_snoc : (a k : ℕ) → parts_from {L = L} a k ++ part (a + k) [] ∷ [] ≡ parts_from a (suc k)
  parts_snoc a zero = let e : a + 0 ≡ a = omega arith in ap (λ j. part j [] ∷ []) e
  parts_snoc a (suc k) = let e : a + suc k ≡ (a + 1) + k = omega arith in ap (λ j. part a [] ∷ (parts_from (a + 1) k ++ part j [] ∷ [])) e ∙ ap (λ ps. part a [] ∷ ps) (parts_snoc (a + 1) k)

  pub parts_more : (k : ℕ) → parts_from {L = L} 0 k ++ part k [] ∷ [] ≡ parts_from 0 (k + 1)
  parts_more k = let e : k ≡ 0 + k = omega arith in let f : suc k ≡ k + 1 = omega arith in ap (λ j. parts_from 0 k ++ part j [] ∷ []) e ∙ parts_snoc 0 k ∙ ap (parts_from 0) f

  pub posted_single_part : (a n : ℕ) → posted_in {L = L} n (part a [] ∷ []) ≡ []
  posted_single_part a n = posted_from n a 1

  pub others_from : (a n : ℕ) → other_parts (parts_from {L = L} a n) ≡ parts_from (a + 1) (n - 1)
  others_from a zero = refl
  others_from a (suc k) = ap (parts_from (a + 1)) (omega arith)

  pub first_from : (a n : ℕ) → 0 < n → first_part (parts_from {L = L} a n) ≡ part a [] ∷ []
  first_from a zero lt = absurd (omega arith)
  first_from a (suc k) lt = refl

-- ---- the letters of one sender

module _ {L : Type 0} (sender : L → ℕ) where
  -- one letter more at the end
  pub of_more : (p : ℕ) (xs : List L) (x : L) → letters_of sender p (xs ++ x ∷ []) ≡ cond (sender x == p) (letters_of sender p xs ++ x ∷ []) (letters_of sender p xs)
  of_more p xs x = elim (sender x == p) as (λ b. (sender x == p) ≡ b → letters_of sender p (xs ++ x ∷ []) ≡ cond b (letters_of sender p xs ++ x ∷ []) (letters_of sender p xs)) [
    | true ↦ λ e. rw filter-append (simp e)
    | false ↦ λ e. rw filter-append (simp (e, append-nil))
  ] refl

  -- a list with no letter of any sender has none
  pub of_none : (xs : List L) → ((p : ℕ) → letters_of sender p xs ≡ []) → xs ≡ []
  of_none [] e = refl
  of_none (x ∷ xs) e = let k : (sender x == sender x) ≡ true = eq-eqb (sender x) (sender x) refl in let z : x ∷ letters_of sender (sender x) xs ≡ [] = simp k at (e (sender x)) in cc
