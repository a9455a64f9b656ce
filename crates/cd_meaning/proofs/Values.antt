-- Values of terms, and truth, at points that agree; and places in tables.
use Rattle.std.proofs.Common.{◌≡◌, ℕ, suc, ◌+◌, ◌*◌, ◌-◌, ◌^◌, ◌<◌, ◌≤◌, inl, inr, min, List, [], ◌∷◌, ◌++◌, map, take, length, slice_index, get_or, ap, ◌∙◌, sym, arith, length-append}
use Rattle.std.proofs.Math.Nat.{pow-zero, pow-suc, mul-le-mul_left, eq-or-lt_of_le}
use Rattle.std.proofs.lemmas.List.{get_or_past}
use Rattle.cd_term.specs.declared.Term.{Term}
use Rattle.cd_clause.specs.Truth.{place}
use Rattle.std.proofs.lemmas.List.{map-append, take_more, take_all}

-- one element behind a list
pub place_more : (size : ℕ) (vs : List ℕ) (v : ℕ) → place size (vs ++ v ∷ []) ≡ place size vs * size + v
place_more size [] v = omega (arith, ap (λ n. v * n) (pow-zero size))
place_more size (w ∷ vs) v =
    let rest = place_more size vs v in
    let longer : length (vs ++ v ∷ []) ≡ suc (length vs) = omega (arith, length-append vs (v ∷ [])) in
    let power : size ^ length (vs ++ v ∷ []) ≡ size ^ length vs * size = ap (λ n. size ^ n) longer ∙ pow-suc size (length vs) in
    let first : w * size ^ length (vs ++ v ∷ []) ≡ w * (size ^ length vs * size) = ap (λ n. w * n) power in
    omega (arith, rest, first)

-- a place is kept up to a limit
kept_low : (a b v m : ℕ) → b ≡ a → min (min b m + v) m ≡ min (a + v) m
kept_low a b v m same = omega arith

kept_high : (a b v m : ℕ) → m ≤ b → m ≤ a → min (min b m + v) m ≡ min (a + v) m
kept_high a b v m low high = omega arith

pub kept_up : (p k size v m : ℕ) → 0 < size → k ≡ min p m → min (min (k * size) m + v) m ≡ min (p * size + v) m
kept_up p k size v m some is =
    let most : k ≤ m = omega arith in
    elim (eq-or-lt_of_le most) [
      | inl e ↦ let high : p * 1 ≤ p * size = mul-le-mul_left p some in
          let limit : m * 1 ≤ m * size = mul-le-mul_left m some in
          let same : k * size ≡ m * size = ap (λ n. n * size) e in
          kept_high (p * size) (k * size) v m (omega (arith, same, limit)) (omega (arith, high, e, is))
      | inr l ↦ let same : k ≡ p = omega (arith, l, is) in kept_low (p * size) (k * size) v m (ap (λ n. n * size) same)
    ]

-- what stands in a place that is kept up to a limit
pub kept_value : (values : List ℕ) (p k : ℕ) → length values < 2 ^ 62 → k ≡ min p (2 ^ 64 - 1) → slice_index values k ≡ slice_index values p
kept_value values p k small is =
    elim (eq-or-lt_of_le (at_most k p is)) [
      | inl e ↦ ap (slice_index values) e
      | inr l ↦ get_or_past values k 0 (omega (arith, l, is, small)) ∙ sym (get_or_past values p 0 (omega (arith, l, is, small)))
    ]
  where
    at_most : (k p : ℕ) → k ≡ min p (2 ^ 64 - 1) → k ≤ p
    at_most k p is = omega arith

-- ---- the places of the first terms

-- the place of the first terms, and of one more
pub place_next : (v : Term → ℕ) (size at n more m k : ℕ) (ts : List Term) (t : Term) → 0 < size → k < length ts → t ≡ get_or ts k t → n ≡ v t →
    at ≡ min (place size (map v (take k ts))) m → more ≡ min (min (at * size) m + n) m → more ≡ min (place size (map v (take (k + 1) ts))) m
place_next v size at n more m k ts t some lt is value_is so_far next =
    let front = map v (take k ts) in
    let longer : map v (take (k + 1) ts) ≡ front ++ n ∷ [] =
    ap (map v) (take_more ts k t lt ∙ ap (λ (u : Term). take k ts ++ u ∷ []) (sym is)) ∙ map-append v (take k ts) (t ∷ [])
    ∙ ap (λ (x : ℕ). front ++ x ∷ []) (sym value_is) in
    next ∙ kept_up (place size front) at size n m some so_far ∙ ap (λ x. min x m) (sym (place_more size front n) ∙ ap (place size) (sym longer))

pub place_all : (v : Term → ℕ) (size at m k : ℕ) (ts us : List Term) → length ts ≤ k → ts ≡ us → at ≡ min (place size (map v (take k ts))) m → at ≡ min (place size (map v us)) m
place_all v size at m k ts us le are so_far = so_far ∙ ap (λ (xs : List Term). min (place size (map v xs)) m) (take_all k ts le ∙ are)
