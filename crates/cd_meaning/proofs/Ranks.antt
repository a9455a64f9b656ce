-- Lists of elements in an order in which the first one counts least.
use Rattle.std.proofs.Common.{◌≡◌, ℕ, zero, suc, ◌+◌, ◌*◌, ◌^◌, ◌<◌, ◌≤◌, inl, inr, List, [], ◌∷◌, length, slice_index, slice_set, ap, ap₂, ◌∙◌, sym, refl, subst, arith, add-one}
use Rattle.std.proofs.Math.Nat.{pow-zero, pow-suc, mul-le-mul_left, eq-or-lt_of_le}
use Rattle.cd_clause.specs.Truth.{Point}
use Rattle.cd_meaning.specs.Interps.{rank}

abbrev pub Elements : ℕ → List ℕ → Type 0
Elements size vs = (k : ℕ) → slice_index vs k < size

power_suc : (size n : ℕ) → size ^ suc n ≡ size * size ^ n
power_suc size n = omega (arith, pow-suc size n)

-- a list has a rank below the number of lists
pub rank_below : (size : ℕ) (vs : List ℕ) → 0 < size → Elements size vs → rank size vs < size ^ length vs
rank_below size [] some all = omega (arith, pow-zero size)
rank_below size (v ∷ vs) some all =
    let rest = rank_below size vs some (λ k. all (suc k)) in
    let one : v < size = all 0 in
    let high : size * (rank size vs + 1) ≤ size * size ^ length vs = mul-le-mul_left size (omega (arith, rest)) in
    omega (arith, high, one, power_suc size (length vs))

-- two lists of one rank are the same
digit_low : (size v w x y : ℕ) → v + size * x ≡ w + size * y → v < size → x < y → ⊥
digit_low size v w x y e small lt =
    let high : size * (x + 1) ≤ size * y = mul-le-mul_left size (omega arith) in
    omega (arith, high, e, small)

digits : (size v w x y : ℕ) → v + size * x ≡ w + size * y → v < size → w < size → x ≡ y
digits size v w x y e small few =
    let low : x ≤ y = not_above x y (λ lt. digit_low size w v y x (sym e) few lt) in
    elim (eq-or-lt_of_le low) [
      | inl same ↦ same
      | inr lt ↦ absurd (digit_low size v w x y e small lt)
    ]
  where
    not_above : (x y : ℕ) → (y < x → ⊥) → x ≤ y
    not_above x y never = omega (arith, never)

pub rank_one : (size : ℕ) (vs ws : List ℕ) → Elements size vs → Elements size ws → length vs ≡ length ws → rank size vs ≡ rank size ws → vs ≡ ws
rank_one size [] [] all each long same = refl
rank_one size [] (w ∷ ws) all each long same = absurd (omega arith)
rank_one size (v ∷ vs) [] all each long same = absurd (omega arith)
rank_one size (v ∷ vs) (w ∷ ws) all each long same =
    let rest : rank size vs ≡ rank size ws = digits size v w (rank size vs) (rank size ws) same (all 0) (each 0) in
    let tail : vs ≡ ws = rank_one size vs ws (λ k. all (suc k)) (λ k. each (suc k)) (omega arith) rest in
    let head : v ≡ w = omega (arith, same, ap (λ n. size * n) rest) in
    ap₂ (λ (x : ℕ) (xs : List ℕ). x ∷ xs) head tail

-- another element in place i
pub rank_set : (size : ℕ) (vs : List ℕ) (i v : ℕ) → i < length vs → rank size (slice_set vs i v) + slice_index vs i * size ^ i ≡ rank size vs + v * size ^ i
rank_set size [] i v lt = absurd (omega arith)
rank_set size (w ∷ vs) zero v lt =
    let one : size ^ 0 ≡ 1 = pow-zero size in
    let left : w * size ^ 0 ≡ w * 1 = ap (λ n. w * n) one in
    let right : v * size ^ 0 ≡ v * 1 = ap (λ n. v * n) one in
    omega (arith, left, right)
rank_set size (w ∷ vs) (suc i) v lt =
    let rest = rank_set size vs i v (omega arith) in
    let more : size * (rank size (slice_set vs i v) + slice_index vs i * size ^ i) ≡ size * (rank size vs + v * size ^ i) = ap (λ n. size * n) rest in
    let left : slice_index vs i * size ^ suc i ≡ slice_index vs i * (size * size ^ i) = ap (λ n. slice_index vs i * n) (power_suc size i) in
    let right : v * size ^ suc i ≡ v * (size * size ^ i) = ap (λ n. v * n) (power_suc size i) in
    omega (arith, more, left, right)

-- the first elements of a point
pub first_of : ℕ → Point → List ℕ
first_of zero p = []
first_of (suc n) p = p 0 ∷ first_of n (λ k. p (suc k))

pub first_length : (n : ℕ) (p : Point) → length (first_of n p) ≡ n
unfolding first_of
first_length zero p = refl
first_length (suc n) p = omega (arith, first_length n (λ k. p (suc k)))

pub first_at : (n : ℕ) (p : Point) (k : ℕ) → k < n → slice_index (first_of n p) k ≡ p k
unfolding first_of
first_at zero p k lt = absurd (omega arith)
first_at (suc n) p zero lt = refl
first_at (suc n) p (suc k) lt = first_at n (λ k. p (suc k)) k (omega arith)

pub first_elements : (size n : ℕ) (p : Point) → 0 < size → ((k : ℕ) → p k < size) → Elements size (first_of n p)
unfolding first_of
first_elements size zero p some all zero = some
first_elements size zero p some all (suc k) = some
first_elements size (suc n) p some all zero = all 0
first_elements size (suc n) p some all (suc k) = first_elements size n (λ k. p (suc k)) some (λ k. all (suc k)) k

-- an element written
pub set_elements : (size : ℕ) (vs : List ℕ) (i v : ℕ) → v < size → Elements size vs → Elements size (slice_set vs i v)
set_elements size [] i v small all k = all k
set_elements size (w ∷ vs) zero v small all zero = small
set_elements size (w ∷ vs) zero v small all (suc k) = all (suc k)
set_elements size (w ∷ vs) (suc i) v small all zero = all 0
set_elements size (w ∷ vs) (suc i) v small all (suc k) = set_elements size vs i v small (λ k. all (suc k)) k

-- ---- the next point

pub power_more : (size n : ℕ) → size ^ (n + 1) ≡ size * size ^ n
power_more size n = ap (λ m. size ^ m) (add-one n) ∙ power_suc size n

pub raised : (size : ℕ) (old vs : List ℕ) (i x : ℕ) → i < length vs → x ≡ slice_index vs i → rank size old + 1 ≡ rank size vs + size ^ i → rank size (slice_set vs i (x + 1)) ≡ rank size old + 1
raised size old vs i x lt is so_far =
    let set = rank_set size vs i (x + 1) lt in
    let same : x * size ^ i ≡ slice_index vs i * size ^ i = ap (λ n. n * size ^ i) is in
    omega (arith, set, same, so_far)

pub carried : (size : ℕ) (old vs : List ℕ) (i : ℕ) → i < length vs → slice_index vs i + 1 ≡ size → rank size old + 1 ≡ rank size vs + size ^ i → rank size old + 1 ≡ rank size (slice_set vs i 0) + size ^ (i + 1)
carried size old vs i lt full so_far =
    let set = rank_set size vs i 0 lt in
    let same : (slice_index vs i + 1) * size ^ i ≡ size * size ^ i = ap (λ n. n * size ^ i) full in
    omega (arith, set, same, so_far, power_more size i)

pub finished : (size : ℕ) (old vs : List ℕ) (i : ℕ) → 0 < size → Elements size old → length old ≤ i → i ≤ length old → rank size old + 1 ≡ rank size vs + size ^ i → rank size old + 1 ≡ size ^ length old
finished size old vs i some all low high so_far =
    let same : size ^ i ≡ size ^ length old = ap (λ n. size ^ n) (omega arith) in
    omega (arith, rank_below size old some all, same, so_far)

-- zeros
pub zero_more : (vs : List ℕ) (i : ℕ) → i < length vs → ((k : ℕ) → k < i → slice_index vs k ≡ 0) → (k : ℕ) → k < i + 1 → slice_index (slice_set vs i 0) k ≡ 0
zero_more [] i lt so_far k below = absurd (omega arith)
zero_more (v ∷ vs) zero lt so_far zero below = refl
zero_more (v ∷ vs) zero lt so_far (suc k) below = absurd (omega arith)
zero_more (v ∷ vs) (suc i) lt so_far zero below = so_far 0 (omega arith)
zero_more (v ∷ vs) (suc i) lt so_far (suc k) below = zero_more vs i (omega arith) (λ m less. so_far (suc m) (omega (arith, less))) k (omega arith)

pub zero_all : (vs : List ℕ) (n : ℕ) → length vs ≤ n → ((k : ℕ) → k < n → slice_index vs k ≡ 0) → (k : ℕ) → slice_index vs k ≡ 0
zero_all [] n le all k = refl
zero_all (v ∷ vs) zero le all k = absurd (omega arith)
zero_all (v ∷ vs) (suc n) le all zero = all 0 (omega arith)
zero_all (v ∷ vs) (suc n) le all (suc k) = zero_all vs n (omega arith) (λ m less. all (suc m) (omega (arith, less))) k

-- ---- all points tried

unfoldable pub Tried : (List ℕ → Type 0) → ℕ → ℕ → ℕ → Type 0
Tried P size long n = (q : List ℕ) → length q ≡ long → Elements size q → rank size q < n → P q

pub none_tried : (P : List ℕ → Type 0) (size long n : ℕ) → n ≡ 0 → Tried P size long n
unfolding Tried
none_tried P size long n is = λ q same all lt. absurd (omega (arith, lt, is))

rank_zero : (size : ℕ) (vs : List ℕ) → ((k : ℕ) → slice_index vs k ≡ 0) → rank size vs ≡ 0
rank_zero size [] all = refl
rank_zero size (v ∷ vs) all =
    let rest : rank size vs ≡ 0 = rank_zero size vs (λ k. all (suc k)) in
    omega (arith, ap (λ n. size * n) rest, all 0)

pub first_tried : (P : List ℕ → Type 0) (size long : ℕ) (vs : List ℕ) → ((k : ℕ) → slice_index vs k ≡ 0) → Tried P size long (rank size vs)
first_tried P size long vs all = none_tried P size long (rank size vs) (rank_zero size vs all)

pub one_tried : (P : List ℕ → Type 0) (size long : ℕ) (vs : List ℕ) (n : ℕ) → length vs ≡ long → Elements size vs → P vs → n ≡ rank size vs + 1 → Tried P size long (rank size vs) → Tried P size long n
unfolding Tried
one_tried P size long vs n as_long each here is so_far = λ q same all lt.
    let low : rank size q ≤ rank size vs = omega (arith, lt, is) in
    elim (eq-or-lt_of_le low) [
      | inl e ↦ subst P (sym (rank_one size q vs all each (omega (arith, same, as_long)) e)) here
      | inr less ↦ so_far q same all less
    ]

pub all_tried : (P : List ℕ → Type 0) (size long n : ℕ) → 0 < size → n ≡ size ^ long → Tried P size long n → (p : Point) → ((k : ℕ) → p k < size) → P (first_of long p)
unfolding Tried
all_tried P size long n some is so_far p each =
    let q = first_of long p in
    let as_long : length q ≡ long = first_length long p in
    let all : Elements size q = first_elements size long p some each in
    so_far q as_long all (omega (arith, rank_below size q some all, ap (λ m. size ^ m) as_long, is))
