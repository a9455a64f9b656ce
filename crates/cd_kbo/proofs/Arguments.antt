-- What walks over terms know of the arguments: sizes, weights and counts.
use Rattle.std.proofs.Common.{◌≡◌, ℕ, ◌+◌, ◌<◌, ◌≤◌, ◌-◌, ◌^◌, min, List, length, get_or, take, sum_by, ap, arith}
use Rattle.std.proofs.lemmas.List.{take_all}
use Rattle.std.proofs.lemmas.List.Sums.{sum_by_more, sum_by_more_le}
use Rattle.cd_term.specs.declared.Term.{Term}
use Rattle.cd_term.specs.declared.Term.TheVariants.{App}
use Rattle.cd_term.specs.Terms.{size_of}
use Rattle.cd_term.proofs.Equations.{size_of-App}
use Rattle.cd_kbo.specs.declared.order.Order.{Order}
use Rattle.cd_kbo.specs.Orders.{weight_at}
use Rattle.cd_kbo.specs.Kbo.{weight_of, occurrences}
use Rattle.cd_kbo.proofs.KboEquations.{weight_of-App, occurrences-App}
use Rattle.cd_kbo.proofs.Small.{weight_small}

-- the weight of a term of limited size was not cut off
pub weight_known : (o : Order) (t : Term) (a : ℕ) → size_of t < 2 ^ 32 → a ≡ min (weight_of o t) (2 ^ 64 - 1) → a ≡ weight_of o t
weight_known o t a small e = omega (arith, weight_small o t)

-- the same of a term that is looked at
pub side_below : (t y x : Term) (f : ℕ) (ts : List Term) (i : ℕ) → t ≡ App f ts → i < length ts → x ≡ get_or ts i x → y ≡ x →
    size_of y < size_of t
side_below t y x f ts i is lt at seen =
    omega (arith, ap size_of is, size_of-App f ts, sum_by_more_le size_of ts i x lt, ap size_of at, ap size_of seen)

pub side_small : (t y x : Term) (f : ℕ) (ts : List Term) (i n : ℕ) → t ≡ App f ts → i < length ts → x ≡ get_or ts i x → y ≡ x →
    size_of t < n → size_of y < n
side_small t y x f ts i n is lt at seen small = omega (arith, side_below t y x f ts i is lt at seen)

-- one argument more
pub grown : (F : Term → ℕ) (ts : List Term) (i : ℕ) (x y : Term) (a b m : ℕ) → i < length ts → x ≡ get_or ts i x → y ≡ x →
    a ≡ min (sum_by F (take i ts)) (2 ^ 64 - 1) → b ≡ min (F y) (2 ^ 64 - 1) → m ≡ min (a + b) (2 ^ 64 - 1) →
    m ≡ min (sum_by F (take (i + 1) ts)) (2 ^ 64 - 1)
grown F ts i x y a b m lt at seen so_far more is = omega (arith, sum_by_more F ts i x lt, ap F at, ap F seen)

pub counted : (F : Term → ℕ) (ts : List Term) (i : ℕ) (x y : Term) (old a m : ℕ) → i < length ts → x ≡ get_or ts i x → y ≡ x →
    a ≡ min (old + sum_by F (take i ts)) (2 ^ 64 - 1) → m ≡ min (a + F y) (2 ^ 64 - 1) →
    m ≡ min (old + sum_by F (take (i + 1) ts)) (2 ^ 64 - 1)
counted F ts i x y old a m lt at seen so_far is = omega (arith, sum_by_more F ts i x lt, ap F at, ap F seen)

-- all arguments
pub weighed_all : (o : Order) (t : Term) (f : ℕ) (ts : List Term) (i a w m : ℕ) → t ≡ App f ts → length ts ≤ i →
    a ≡ min (sum_by (weight_of o) (take i ts)) (2 ^ 64 - 1) → w ≡ weight_at o f → m ≡ min (a + w) (2 ^ 64 - 1) →
    m ≡ min (weight_of o t) (2 ^ 64 - 1)
weighed_all o t f ts i a w m is past so_far own total =
    omega (arith, ap (weight_of o) is, weight_of-App o f ts, ap (sum_by (weight_of o)) (take_all i ts past))

pub counted_all : (n : ℕ) (t : Term) (f : ℕ) (ts : List Term) (i old m : ℕ) → t ≡ App f ts → length ts ≤ i →
    m ≡ min (old + sum_by (occurrences n) (take i ts)) (2 ^ 64 - 1) → m ≡ min (old + occurrences n t) (2 ^ 64 - 1)
counted_all n t f ts i old m is past so_far =
    omega (arith, ap (occurrences n) is, occurrences-App n f ts, ap (sum_by (occurrences n)) (take_all i ts past))

-- the weight of a term that is looked at
pub read_weight : (o : Order) (y x : Term) (b : ℕ) → y ≡ x → b ≡ min (weight_of o y) (2 ^ 64 - 1) → b ≡ min (weight_of o x) (2 ^ 64 - 1)
read_weight o y x b seen is = omega (arith, ap (weight_of o) seen)
