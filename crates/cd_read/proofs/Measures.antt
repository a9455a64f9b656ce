-- Sizes and depths of the first items of a list, within bounds.
use Rattle.std.proofs.Common.{◌≡◌, ℕ, ◌+◌, ◌-◌, ◌<◌, ◌≤◌, max, zero, suc, List, [], ◌∷◌, ◌++◌, length, get_or, sum_by, map, take, ap, ◌∙◌, sym, arith}
use Rattle.std.proofs.lemmas.List.{take_more, take_all, map-append}
use Rattle.std.proofs.lemmas.List.Sums.{sum_by_more, sum_by-take-le}
use Rattle.cd_term.specs.Terms.{greatest}
use Rattle.cd_parse.specs.declared.tree.Tree.{Tree}
use Rattle.cd_parse.specs.declared.tree.Tree.TheVariants.{App}
use Rattle.cd_read.specs.Meaning.{depth_of}
use Rattle.cd_parse.specs.Trees.{size_of}
use Rattle.cd_read.specs.Bounds.{IsWithin, TreesWithin}
use Rattle.cd_read.proofs.Trees.{depth_of-App}
use Rattle.cd_parse.proofs.Sizes.{size_of-App}

greatest-append : (xs ys : List ℕ) → greatest (xs ++ ys) ≡ max (greatest xs) (greatest ys)
greatest-append [] ys = omega arith
greatest-append (x ∷ xs) ys = omega (arith, greatest-append xs ys)

module _ {X : Type 0} (size depth : X → ℕ) where
  greatest-take : (ts : List X) (i : ℕ) (d : X) → i < length ts →
      greatest (map depth (take (i + 1) ts)) ≡ max (greatest (map depth (take i ts))) (depth (get_or ts i d))
  greatest-take ts i d lt = rw (take_more ts i d, map-append, greatest-append) (omega arith)

  greatest-le : (ts : List X) (i : ℕ) (d : X) → i < length ts → depth (get_or ts i d) ≤ greatest (map depth ts)
  greatest-le [] i d lt = absurd (omega arith)
  greatest-le (t ∷ ts) zero d lt = omega arith
  greatest-le (t ∷ ts) (suc i) d lt = omega (arith, greatest-le ts i d (omega arith))

  -- one item more
  pub next_measured : (ts : List X) (i base total symbols levels n : ℕ) (x : X) → i < length ts → x ≡ get_or ts i x →
      total ≡ base + sum_by size (take i ts) → total ≤ symbols → greatest (map depth (take i ts)) ≤ levels →
      n ≡ size x → size x ≤ symbols - total → depth x ≤ levels →
      (total + n ≡ base + sum_by size (take (i + 1) ts)) × (total + n ≤ symbols) × (greatest (map depth (take (i + 1) ts)) ≤ levels)
  next_measured ts i base total symbols levels n x lt at so_far few flat is fits shallow =
      let same : size x ≡ size (get_or ts i x) = ap size at in
      let deep : depth x ≡ depth (get_or ts i x) = ap depth at in
      let more = sum_by_more size ts i x lt in
      let most = greatest-take ts i x lt in
      (omega (arith, same, more, so_far, is), omega (arith, few, is, fits), omega (arith, deep, most, flat, shallow))

  -- an item that is outside
  pub outside_measured : (ts : List X) (i base total symbols levels : ℕ) (x : X) → i < length ts → x ≡ get_or ts i x →
      total ≡ base + sum_by size (take i ts) → ¬ ((size x ≤ symbols - total) × (depth x ≤ levels)) →
      ¬ ((sum_by size ts ≤ symbols - base) × (greatest (map depth ts) ≤ levels))
  outside_measured ts i base total symbols levels x lt at so_far out within =
      let same : size x ≡ size (get_or ts i x) = ap size at in
      let deep : depth x ≡ depth (get_or ts i x) = ap depth at in
      out (
        omega (arith, same, sum_by_more size ts i x lt, sum_by-take-le size ts (i + 1), so_far, within.0),
        omega (arith, deep, greatest-le ts i x lt, within.1),
      )

  -- all items
  pub whole_measured : (ts : List X) (i base total symbols levels : ℕ) → length ts ≤ i →
      total ≡ base + sum_by size (take i ts) → total ≤ symbols → greatest (map depth (take i ts)) ≤ levels →
      (total ≡ base + sum_by size ts) × (base + sum_by size ts ≤ symbols) × (greatest (map depth ts) ≤ levels)
  whole_measured ts i base total symbols levels le so_far few flat =
      let all : sum_by size (take i ts) ≡ sum_by size ts = ap (sum_by size) (take_all i ts le) in
      let deep : greatest (map depth (take i ts)) ≡ greatest (map depth ts) = ap (λ us. greatest (map depth us)) (take_all i ts le) in
      (omega (arith, all, so_far), omega (arith, all, so_far, few), omega (arith, deep, flat))

-- from a tree to its arguments, and back
pub arguments_within : (t : Tree) (w : List ℕ) (ts us : List Tree) (symbols levels : ℕ) → t ≡ App w ts → us ≡ ts →
    IsWithin symbols levels t → TreesWithin (symbols - 1) (levels - 1) us
arguments_within t w ts us symbols levels is same within =
    let size : size_of t ≡ 1 + sum_by size_of us = ap size_of is ∙ size_of-App w ts ∙ ap (λ vs. 1 + sum_by size_of vs) (sym same) in
    let deep : depth_of t ≡ 1 + greatest (map depth_of us) = ap depth_of is ∙ depth_of-App w ts ∙ ap (λ vs. 1 + greatest (map depth_of vs)) (sym same) in
    (omega (arith, size, within.0), omega (arith, deep, within.1))

pub symbol_measured : (t : Tree) (w : List ℕ) (ts us : List Tree) (symbols levels total : ℕ) → t ≡ App w ts → us ≡ ts → 0 < levels →
    (total ≡ 1 + sum_by size_of us) × (1 + sum_by size_of us ≤ symbols) × (greatest (map depth_of us) ≤ levels - 1) →
    (total ≡ size_of t) × IsWithin symbols levels t
symbol_measured t w ts us symbols levels total is same some m =
    let size : size_of t ≡ 1 + sum_by size_of us = ap size_of is ∙ size_of-App w ts ∙ ap (λ vs. 1 + sum_by size_of vs) (sym same) in
    let deep : depth_of t ≡ 1 + greatest (map depth_of us) = ap depth_of is ∙ depth_of-App w ts ∙ ap (λ vs. 1 + greatest (map depth_of vs)) (sym same) in
    (omega (arith, size, m.0), (omega (arith, size, m.1), omega (arith, deep, m.2, some)))
