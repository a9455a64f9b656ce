-- Sizes and depths of the first terms of a list, within limits.
use Rattle.std.proofs.Common.{◌≡◌, ℕ, ◌+◌, ◌-◌, ◌<◌, ◌≤◌, max, zero, suc, List, [], ◌∷◌, ◌++◌, length, get_or, sum_by, map, take, ap, ◌∙◌, sym, arith}
use Rattle.std.proofs.lemmas.List.{take_more, take_all, map-append, get_or-map, length-map}
use Rattle.std.proofs.lemmas.List.Sums.{sum_by_more, sum_by-take-le}
use Rattle.cd_term.specs.declared.Term.{Term}
use Rattle.cd_term.specs.declared.Term.TheVariants.{App}
use Rattle.cd_term.specs.Terms.{size_of, depth_of, greatest, IsWithin, AreWithin}
use Rattle.cd_term.proofs.Equations.{size_of-App, depth_of-App}

pub greatest-append : (xs ys : List ℕ) → greatest (xs ++ ys) ≡ max (greatest xs) (greatest ys)
greatest-append [] ys = omega arith
greatest-append (x ∷ xs) ys = omega (arith, greatest-append xs ys)

pub greatest-take : (f : Term → ℕ) (ts : List Term) (i : ℕ) (d : Term) → i < length ts →
    greatest (map f (take (i + 1) ts)) ≡ max (greatest (map f (take i ts))) (f (get_or ts i d))
greatest-take f ts i d lt =
    rw (take_more ts i d, map-append, greatest-append) (omega arith)

pub greatest-le : (f : Term → ℕ) (ts : List Term) (i : ℕ) (d : Term) → i < length ts → f (get_or ts i d) ≤ greatest (map f ts)
greatest-le f [] i d lt = absurd (omega arith)
greatest-le f (t ∷ ts) zero d lt = omega arith
greatest-le f (t ∷ ts) (suc i) d lt = omega (arith, greatest-le f ts i d (omega arith))

-- one term more
pub next_measured : (ts : List Term) (i base total symbols levels n : ℕ) (x : Term) → i < length ts → x ≡ get_or ts i x →
    total ≡ base + sum_by size_of (take i ts) → total ≤ symbols → greatest (map depth_of (take i ts)) ≤ levels →
    (n ≡ size_of x) × IsWithin (symbols - total) levels x →
    (total + n ≡ base + sum_by size_of (take (i + 1) ts)) × (total + n ≤ symbols) × (greatest (map depth_of (take (i + 1) ts)) ≤ levels)
next_measured ts i base total symbols levels n x lt at so_far few flat m =
    let same : size_of x ≡ size_of (get_or ts i x) = ap size_of at in
    let deep : depth_of x ≡ depth_of (get_or ts i x) = ap depth_of at in
    let more = sum_by_more size_of ts i x lt in
    let most = greatest-take depth_of ts i x lt in
    (omega (arith, same, more, so_far, m.0), omega (arith, few, m.0, m.1.0), omega (arith, deep, most, flat, m.1.1))

-- a term that is outside
pub outside_measured : (ts : List Term) (i base total symbols levels : ℕ) (x : Term) → i < length ts → x ≡ get_or ts i x →
    total ≡ base + sum_by size_of (take i ts) → ¬ IsWithin (symbols - total) levels x → ¬ AreWithin (symbols - base) levels ts
outside_measured ts i base total symbols levels x lt at so_far out within =
    let same : size_of x ≡ size_of (get_or ts i x) = ap size_of at in
    let deep : depth_of x ≡ depth_of (get_or ts i x) = ap depth_of at in
    out (
      omega (arith, same, sum_by_more size_of ts i x lt, sum_by-take-le size_of ts (i + 1), so_far, within.0),
      omega (arith, deep, greatest-le depth_of ts i x lt, within.1),
    )

-- all terms
pub whole_measured : (ts : List Term) (i base total symbols levels : ℕ) → length ts ≤ i →
    total ≡ base + sum_by size_of (take i ts) → total ≤ symbols → greatest (map depth_of (take i ts)) ≤ levels →
    (total ≡ base + sum_by size_of ts) × (base + sum_by size_of ts ≤ symbols) × (greatest (map depth_of ts) ≤ levels)
whole_measured ts i base total symbols levels le so_far few flat =
    let all : sum_by size_of (take i ts) ≡ sum_by size_of ts = ap (sum_by size_of) (take_all i ts le) in
    let deep : greatest (map depth_of (take i ts)) ≡ greatest (map depth_of ts) = ap (λ us. greatest (map depth_of us)) (take_all i ts le) in
    (omega (arith, all, so_far), omega (arith, all, so_far, few), omega (arith, deep, flat))

-- from a term to its arguments, and back
pub arguments_within : (t : Term) (f : ℕ) (ts us : List Term) (symbols levels : ℕ) → t ≡ App f ts → us ≡ ts →
    IsWithin symbols levels t → AreWithin (symbols - 1) (levels - 1) us
arguments_within t f ts us symbols levels is same within =
    let size : size_of t ≡ 1 + sum_by size_of us = ap size_of is ∙ size_of-App f ts ∙ ap (λ vs. 1 + sum_by size_of vs) (sym same) in
    let deep : depth_of t ≡ 1 + greatest (map depth_of us) = ap depth_of is ∙ depth_of-App f ts ∙ ap (λ vs. 1 + greatest (map depth_of vs)) (sym same) in
    (omega (arith, size, within.0), omega (arith, deep, within.1))

pub symbol_measured : (t : Term) (f : ℕ) (ts us : List Term) (symbols levels total : ℕ) → t ≡ App f ts → us ≡ ts → 0 < levels →
    (total ≡ 1 + sum_by size_of us) × (1 + sum_by size_of us ≤ symbols) × (greatest (map depth_of us) ≤ levels - 1) →
    (total ≡ size_of t) × IsWithin symbols levels t
symbol_measured t f ts us symbols levels total is same some m =
    let size : size_of t ≡ 1 + sum_by size_of us = ap size_of is ∙ size_of-App f ts ∙ ap (λ vs. 1 + sum_by size_of vs) (sym same) in
    let deep : depth_of t ≡ 1 + greatest (map depth_of us) = ap depth_of is ∙ depth_of-App f ts ∙ ap (λ vs. 1 + greatest (map depth_of vs)) (sym same) in
    (omega (arith, size, m.0), (omega (arith, size, m.1), omega (arith, deep, m.2, some)))

-- a term of a list, with a substitution applied
pub at_map : (h : Term → Term) (ts : List Term) (i : ℕ) (x : Term) → i < length ts → x ≡ get_or ts i x → h x ≡ get_or (map h ts) i (h x)
at_map h ts i x lt at = ap h at ∙ sym (get_or-map h ts i x (h x) lt)

pub below_map : (h : Term → Term) (ts : List Term) (i : ℕ) → i < length ts → i < length (map h ts)
below_map h ts i lt = omega (arith, length-map ts h)

pub past_map : (h : Term → Term) (ts : List Term) (i : ℕ) → length ts ≤ i → length (map h ts) ≤ i
past_map h ts i le = omega (arith, length-map ts h)
