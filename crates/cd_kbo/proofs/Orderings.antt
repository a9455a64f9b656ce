-- Three-way answers, and lists of numbers that decide before their tails are read.
use Rattle.std.proofs.Common.{◌≡◌, ◌≢◌, ℕ, ◌<◌, true, false, List, [], ◌∷◌, ◌++◌, append_assoc, sym, ap, ◌∙◌, refl, subst}
use Rattle.std.specs.Cmp.{nat_cmp_is}
use Rattle.std.specs.Cmp.Lexicographic.{slice_cmp}
use Rattle.std.specs.Ordering.{nat_cmp, ordering_then, is_ne}
use Rattle.std.specs.declared.cmp.Ordering.{Ordering}
use Rattle.std.specs.declared.cmp.Ordering.TheVariants.{Less, Equal, Greater}
use Rattle.std.proofs.lemmas.Cmp.{ranked}

pub less_not_greater : Less ≢ Greater
less_not_greater e = cc

pub then_assoc : (a b c : Ordering) → ordering_then (ordering_then a b) c ≡ ordering_then a (ordering_then b c)
then_assoc Less b c = refl
then_assoc Equal b c = refl
then_assoc Greater b c = refl

pub then_under : (c a b : Ordering) → (c ≡ Equal → a ≡ b) → ordering_then c a ≡ ordering_then c b
then_under Less a b h = refl
then_under Equal a b h = h refl
then_under Greater a b h = refl

pub then_equal : (c : Ordering) → ordering_then c Equal ≡ c
then_equal Less = refl
then_equal Equal = refl
then_equal Greater = refl

-- a later answer counts where the earlier one is no opposite
pub then_less : (a b : Ordering) → a ≢ Greater → b ≡ Less → ordering_then a b ≡ Less
then_less Less b h e = refl
then_less Equal b h e = e
then_less Greater b h e = absurd (h refl)

pub both_equal : (a b : Ordering) → ordering_then a b ≡ Equal → (a ≡ Equal) × (b ≡ Equal)
both_equal Less b e = cc
both_equal Equal b e = (refl, e)
both_equal Greater b e = cc

pub nat_cmp-Equal : (x y : ℕ) → nat_cmp x y ≡ Equal → x ≡ y
nat_cmp-Equal x y e = ranked x y Equal (sym e)

pub nat_cmp-Less : (x y : ℕ) → nat_cmp x y ≡ Less → x < y
nat_cmp-Less x y e = ranked x y Less (sym e)

pub nat_cmp-Greater : (x y : ℕ) → nat_cmp x y ≡ Greater → y < x
nat_cmp-Greater x y e = ranked x y Greater (sym e)

pub is_less : (x y : ℕ) → x < y → nat_cmp x y ≡ Less
is_less x y h = sym (nat_cmp_is x y Less h)

pub is_equal : (x y : ℕ) → x ≡ y → nat_cmp x y ≡ Equal
is_equal x y h = sym (nat_cmp_is x y Equal h)

pub is_greater : (x y : ℕ) → y < x → nat_cmp x y ≡ Greater
is_greater x y h = sym (nat_cmp_is x y Greater h)

-- a common beginning does not count
pub after_same : {A : Type 0} (R : A → A → Ordering) → ((x : A) → R x x ≡ Equal) → (b xs ys : List A) →
    slice_cmp R (b ++ xs) (b ++ ys) ≡ slice_cmp R xs ys
after_same R h [] xs ys = refl
after_same R h (x ∷ b) xs ys =
    ap (λ (c : Ordering). ordering_then c (slice_cmp R (b ++ xs) (b ++ ys))) (h x) ∙ after_same R h b xs ys

-- xs against ys decides, or they are equal and what follows decides
pub record Splits (xs ys : List ℕ) : Type 0 where
  pub at : (x y : List ℕ) → slice_cmp nat_cmp (xs ++ x) (ys ++ y) ≡ ordering_then (slice_cmp nat_cmp xs ys) (slice_cmp nat_cmp x y)

pub splits_none : Splits [] []
splits_none = record { at = λ x y. refl }

pub splits_cons : (a b : ℕ) (xs ys : List ℕ) → (a ≡ b → Splits xs ys) → Splits (a ∷ xs) (b ∷ ys)
splits_cons a b xs ys h = record {
  at = λ x y. then_under (nat_cmp a b) (slice_cmp nat_cmp (xs ++ x) (ys ++ y)) (ordering_then (slice_cmp nat_cmp xs ys) (slice_cmp nat_cmp x y))
      (λ e. (h (nat_cmp-Equal a b e)).at x y) ∙
      sym (then_assoc (nat_cmp a b) (slice_cmp nat_cmp xs ys) (slice_cmp nat_cmp x y));
}

pub splits_append : (a b c d : List ℕ) → Splits a b → Splits c d → Splits (a ++ c) (b ++ d)
splits_append a b c d h k = record {
  at = λ x y. (λ i. slice_cmp nat_cmp (append_assoc a c x i) (append_assoc b d y i)) ∙
      h.at (c ++ x) (d ++ y) ∙
      ap (ordering_then (slice_cmp nat_cmp a b)) (k.at x y) ∙
      sym (then_assoc (slice_cmp nat_cmp a b) (slice_cmp nat_cmp c d) (slice_cmp nat_cmp x y)) ∙
      ap (λ (o : Ordering). ordering_then o (slice_cmp nat_cmp x y)) (sym (h.at c d));
}

pub splits_moved : (a b c d : List ℕ) → a ≡ c → b ≡ d → Splits c d → Splits a b
splits_moved a b c d p q h = subst (λ z. Splits z b) (sym p) (subst (λ z. Splits c z) (sym q) h)

pub then_ne : (c z : Ordering) → is_ne c ≡ true → ordering_then c z ≡ c
then_ne Less z h = refl
then_ne Equal z h = cc
then_ne Greater z h = refl

pub not_ne : (c : Ordering) → is_ne c ≡ false → c ≡ Equal
not_ne Less h = cc
not_ne Equal h = refl
not_ne Greater h = cc

-- equal beginnings do not count
pub after_equal : {A : Type 0} (R : A → A → Ordering) (p q xs ys : List A) → slice_cmp R p q ≡ Equal →
    slice_cmp R (p ++ xs) (q ++ ys) ≡ slice_cmp R xs ys
after_equal R [] [] xs ys e = refl
after_equal R [] (b ∷ q) xs ys e = cc
after_equal R (a ∷ p) [] xs ys e = cc
after_equal R (a ∷ p) (b ∷ q) xs ys e =
    let h = both_equal (R a b) (slice_cmp R p q) e in
    ap (λ (c : Ordering). ordering_then c (slice_cmp R (p ++ xs) (q ++ ys))) h.0 ∙ after_equal R p q xs ys h.1
