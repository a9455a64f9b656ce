-- Marks that are set stay set.
use Rattle.std.proofs.Common.{◌≡◌, ◌≢◌, ◌⊎◌, inl, inr, ℕ, ◌+◌, ◌*◌, ◌<◌, ◌≤◌, ◌%◌, ◌^◌, Bool, true, false, nat_eq, List, [], ◌∷◌, ◌++◌, length, take, get_or, slice_set, bit_or, w64, ap, subst, refl, sym, ◌∙◌, arith}
use Rattle.std.specs.Prelude.{slice_index}
use Rattle.std.specs.Int.{bit_at}
use Rattle.std.proofs.lemmas.Bool.{eqb-true}
use Rattle.std.proofs.lemmas.List.{take_more, take_all, get_or-set_other, get_or-set_same}
use Rattle.std.proofs.lemmas.Nat.Bits.{bit_at_or, bit_at-lt, bit_at_set_same}
use Rattle.cd_list.proofs.Numbers.{equal_itself}
use Rattle.cd_contract.specs.Shapes.{Among}

true_stays : (a b i : ℕ) → bit_at a i ≡ 1 → bit_at (bit_or a b) i ≡ 1
true_stays a b i on = omega (arith, bit_at_or a b i, bit_at-lt b i, on)

true_comes : (a b i : ℕ) → bit_at b i ≡ 1 → bit_at (bit_or a b) i ≡ 1
true_comes a b i on = omega (arith, bit_at_or a b i, bit_at-lt a i, on)

-- a word that takes more bits keeps those that it has, and so does each other word
pub word_kept : (words : List ℕ) (i p b v : ℕ) → i < length words → bit_at (slice_index words p) b ≡ 1 →
    bit_at (slice_index (slice_set words i (bit_or (get_or words i 0) v)) p) b ≡ 1
word_kept words i p b v lt on = at (nat_eq i p) refl
  where
    at : (e : Bool) → nat_eq i p ≡ e → bit_at (slice_index (slice_set words i (bit_or (get_or words i 0) v)) p) b ≡ 1
    at true is =
        (let same : i ≡ p = eqb-true i p is in
        ap (λ j. bit_at (slice_index (slice_set words i (bit_or (get_or words i 0) v)) j) b) (sym same)
        ∙ ap (λ w. bit_at w b) (get_or-set_same words i (bit_or (get_or words i 0) v) 0 lt)
        ∙ true_stays (get_or words i 0) v b (ap (λ j. bit_at (slice_index words j) b) same ∙ on))
    at false is =
        (let apart : p ≢ i = (λ e. (let both : true ≡ false = sym (equal_itself i) ∙ ap (nat_eq i) (sym e) ∙ is in cc)) in
        ap (λ w. bit_at w b) (get_or-set_other words i p (bit_or (get_or words i 0) v) 0 apart) ∙ on)

-- and it has the new ones
pub word_has : (words : List ℕ) (i p b v : ℕ) → i < length words → i ≡ p → bit_at v b ≡ 1 →
    bit_at (slice_index (slice_set words i (bit_or (get_or words i 0) v)) p) b ≡ 1
word_has words i p b v lt same on =
    ap (λ j. bit_at (slice_index (slice_set words i (bit_or (get_or words i 0) v)) j) b) (sym same)
    ∙ ap (λ w. bit_at w b) (get_or-set_same words i (bit_or (get_or words i 0) v) 0 lt)
    ∙ true_comes (get_or words i 0) v b on

pub one_marked : (words : List ℕ) (i p b : ℕ) → i < length words → i ≡ p → b < 64 →
    bit_at (slice_index (slice_set words i (bit_or (get_or words i 0) (1 * 2 ^ b % 18446744073709551616))) p) b ≡ 1
one_marked words i p b lt same below =
    ap (λ j. bit_at (slice_index (slice_set words i (bit_or (get_or words i 0) (1 * 2 ^ b % 18446744073709551616))) j) b) (sym same)
    ∙ ap (λ w. bit_at w b) (get_or-set_same words i (bit_or (get_or words i 0) (1 * 2 ^ b % 18446744073709551616)) 0 lt)
    ∙ bit_at_set_same w64 (get_or words i 0) b below

-- one more number of a list
pub among_more : (n : ℕ) (ms : List ℕ) (m : ℕ) → Among n (ms ++ m ∷ []) → Among n ms ⊎ (n ≡ m)
among_more n [] m (inl is) = inr is
among_more n [] m (inr none) = absurd none
among_more n (x ∷ ms) m (inl is) = inl (inl is)
among_more n (x ∷ ms) m (inr rest) = elim (among_more n ms m rest) [ inl before ↦ inl (inr before) | inr is ↦ inr is ]

pub among_next : (P : ℕ → Type 0) (ms : List ℕ) (i : ℕ) → i < length ms → ((n : ℕ) → Among n (take i ms) → P n) → P (get_or ms i 0) →
    (n : ℕ) → Among n (take (i + 1) ms) → P n
among_next P ms i lt before here n among =
    elim (among_more n (take i ms) (get_or ms i 0) (subst (Among n) (take_more ms i 0 lt) among)) [
      | inl old ↦ before n old
      | inr is ↦ subst P (sym is) here
    ]

pub among_all : (P : ℕ → Type 0) (ms : List ℕ) (i : ℕ) → length ms ≤ i → ((n : ℕ) → Among n (take i ms) → P n) → (n : ℕ) → Among n ms → P n
among_all P ms i le all n among = all n (subst (Among n) (sym (take_all i ms le)) among)

-- the words of a shorter table take in one more of a longer one
split : (a b : ℕ) → a < b + 1 → (a < b) ⊎ (a ≡ b)
split a b h = grind (arith, h)

pub brief_next : (ws words : List ℕ) (i : ℕ) → i % 8 < length words →
    ((j b : ℕ) → j < i → bit_at (slice_index ws j) b ≡ 1 → bit_at (slice_index words (j % 8)) b ≡ 1) → (j b : ℕ) → j < i + 1 → bit_at (slice_index ws j) b ≡ 1 →
    bit_at (slice_index (slice_set words (i % 8) (bit_or (get_or words (i % 8) 0) (get_or ws i 0))) (j % 8)) b ≡ 1
brief_next ws words i lt so_far j b less on = by (split j i less)
  where
    by : (j < i) ⊎ (j ≡ i) → bit_at (slice_index (slice_set words (i % 8) (bit_or (get_or words (i % 8) 0) (get_or ws i 0))) (j % 8)) b ≡ 1
    by (inl before) = word_kept words (i % 8) (j % 8) b (get_or ws i 0) lt (so_far j b before on)
    by (inr same) = word_has words (i % 8) (j % 8) b (get_or ws i 0) lt (ap (λ k. k % 8) (sym same)) (ap (λ k. bit_at (get_or ws k 0) b) (sym same) ∙ on)
