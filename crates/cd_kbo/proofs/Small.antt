-- Weights and occurrences of terms of limited size.
use Rattle.std.proofs.Common.{ℕ, ◌*◌, ◌≤◌, Bool, true, false, nat_eq, if◌then◌else◌, List, [], ◌∷◌, sum_by, arith}
use Rattle.std.proofs.lemmas.List.Sums.{sum_by-cons}
use Rattle.cd_term.specs.declared.Term.{Term}
use Rattle.cd_term.specs.Terms.{size_of}
use Rattle.cd_term.proofs.Equations.{size_of-Var, size_of-App}
use Rattle.cd_term.proofs.TermInduction.{Each, ind}
use Rattle.cd_kbo.specs.declared.order.Order.{Order}
use Rattle.cd_kbo.specs.Kbo.{weight_of, occurrences}
use Rattle.cd_kbo.proofs.KboEquations.{weight_of-Var, weight_of-App, occurrences-Var, occurrences-App}

sums : (f g : Term → ℕ) (ts : List Term) → Each (λ t. f t ≤ g t) ts → sum_by f ts ≤ sum_by g ts
sums f g [] h = omega arith
sums f g (t ∷ ts) h = omega (arith, sums f g ts h.1, h.0, sum_by-cons f t ts, sum_by-cons g t ts)

sums_of : (f g : Term → ℕ) (c : ℕ) (ts : List Term) → Each (λ t. f t ≤ 255 * g t) ts → sum_by f ts ≤ 255 * sum_by g ts
sums_of f g c [] h = omega arith
sums_of f g c (t ∷ ts) h = omega (arith, sums_of f g c ts h.1, h.0, sum_by-cons f t ts, sum_by-cons g t ts)

one_at_most : (b : Bool) → (if b then 1 else 0) ≤ 1
one_at_most true = omega arith
one_at_most false = omega arith

pub occurrences_small : (k : ℕ) (t : Term) → occurrences k t ≤ size_of t
occurrences_small k = ind (λ t. occurrences k t ≤ size_of t)
    (λ n. omega (arith, occurrences-Var k n, one_at_most (nat_eq n k), size_of-Var n))
    (λ f ts h. omega (arith, occurrences-App k f ts, size_of-App f ts, sums (occurrences k) size_of ts h))

pub weight_small : (o : Order) (t : Term) → weight_of o t ≤ 255 * size_of t
weight_small o = ind (λ t. weight_of o t ≤ 255 * size_of t)
    (λ n. omega (arith, weight_of-Var o n, size_of-Var n))
    (λ f ts h. omega (arith, weight_of-App o f ts, size_of-App f ts, sums_of (weight_of o) size_of 0 ts h, o.in_range.small f))

pub weight_positive : (o : Order) (t : Term) → 1 ≤ weight_of o t
weight_positive o = ind (λ t. 1 ≤ weight_of o t)
    (λ n. omega (arith, weight_of-Var o n))
    (λ f ts h. omega (arith, weight_of-App o f ts, o.in_range.positive f))
