-- Counts of variables in tables.
use Rattle.std.proofs.Common.{◌≡◌, ℕ, ◌+◌, ◌-◌, ◌^◌, ◌<◌, ◌≤◌, min, List, [], ◌∷◌, length, get_or, take, sum_by, ap, subst, arith}
use Rattle.std.proofs.lemmas.List.Sums.{sum_by-cons, sum_by_more_le}
use Rattle.cd_term.specs.declared.Term.{Term}
use Rattle.cd_term.specs.declared.Term.TheVariants.{App}
use Rattle.cd_term.specs.Terms.{size_of}
use Rattle.cd_term.proofs.Equations.{size_of-App}
use Rattle.cd_kbo.specs.Kbo.{occurrences, Covers}
use Rattle.cd_kbo.specs.Blocks.{InBlock}
use Rattle.cd_kbo.proofs.Small.{occurrences_small}

-- what a table holds once the occurrences in a term were added
abbrev pub IsTallied : ℕ → Term → List ℕ → List ℕ → Type 0
IsTallied base t old new =
    (k : ℕ) → k < 16 → get_or new k 0 ≡ min (get_or old k 0 + occurrences (base + k) t) (2 ^ 64 - 1)

-- a table has room for the occurrences in a term
abbrev pub HasRoom : Term → List ℕ → Type 0
HasRoom t old = (k : ℕ) → k < 16 → get_or old k 0 + size_of t < 2 ^ 33

pub tables_cover : (base : ℕ) (s t : Term) (old_left old_right left right : List ℕ) →
    ((k : ℕ) → k < 16 → get_or old_left k 0 ≡ get_or old_right k 0) → HasRoom s old_left → HasRoom t old_right →
    IsTallied base s old_left left → IsTallied base t old_right right →
    ((k : ℕ) → k < 16 → get_or right k 0 ≤ get_or left k 0) → Covers (InBlock base) s t
tables_cover base s t old_left old_right left right alike room_s room_t tallied_s tallied_t below = record {
  at_each = λ k v.
      let lt : k - base < 16 = omega (arith, v.above, v.below) in
      let is : base + (k - base) ≡ k = omega (arith, v.above) in
      subst (λ n. occurrences n t ≤ occurrences n s) is (omega (
        arith,
        alike (k - base) lt,
        room_s (k - base) lt,
        room_t (k - base) lt,
        tallied_s (k - base) lt,
        tallied_t (k - base) lt,
        below (k - base) lt,
        occurrences_small (base + (k - base)) s,
        occurrences_small (base + (k - base)) t,
      ));
}

pub covers_tables : (base : ℕ) (s t : Term) (old_left old_right left right : List ℕ) →
    ((k : ℕ) → k < 16 → get_or old_left k 0 ≡ get_or old_right k 0) →
    IsTallied base s old_left left → IsTallied base t old_right right →
    Covers (InBlock base) s t → (k : ℕ) → k < 16 → get_or right k 0 ≤ get_or left k 0
covers_tables base s t old_left old_right left right alike tallied_s tallied_t covers k lt =
    let here : occurrences (base + k) t ≤ occurrences (base + k) s = covers.at_each (base + k) (record { above = omega arith; below = omega arith }) in
    omega (arith, alike k lt, tallied_s k lt, tallied_t k lt)

counts_small : (k : ℕ) (ts : List Term) → sum_by (occurrences k) ts ≤ sum_by size_of ts
counts_small k [] = omega arith
counts_small k (t ∷ ts) = omega (arith, counts_small k ts, occurrences_small k t, sum_by-cons (occurrences k) t ts, sum_by-cons size_of t ts)

-- the room that is left for the next argument
pub room_inside : (n : ℕ) (t : Term) (f : ℕ) (ts : List Term) (i : ℕ) (x y : Term) (old new : ℕ) → t ≡ App f ts → i < length ts →
    x ≡ get_or ts i x → y ≡ x → old + size_of t < 2 ^ 33 → new ≡ min (old + sum_by (occurrences n) (take i ts)) (2 ^ 64 - 1) →
    new + size_of y < 2 ^ 33
room_inside n t f ts i x y old new form lt at seen room is = omega (
  arith,
  ap size_of form,
  size_of-App f ts,
  sum_by_more_le size_of ts i x lt,
  counts_small n (take i ts),
  ap size_of at,
  ap size_of seen,
)

-- tables that were the same are the same after the same arguments
pub alike_inside : (n : ℕ) (xs ys : List Term) (old_left old_right left right : ℕ) → old_left ≡ old_right → xs ≡ ys →
    left ≡ min (old_left + sum_by (occurrences n) xs) (2 ^ 64 - 1) → right ≡ min (old_right + sum_by (occurrences n) ys) (2 ^ 64 - 1) → left ≡ right
alike_inside n xs ys old_left old_right left right alike same p q = omega (arith, ap (sum_by (occurrences n)) same)
