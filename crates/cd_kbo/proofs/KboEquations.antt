-- The equations of the orders' definitions.
use Rattle.std.proofs.Common.{◌≡◌, ℕ, ◌+◌, nat_eq, if◌then◌else◌, List, [], ◌∷◌, map, length, sum, sum_by, sym, ap, ◌∙◌, refl, arith}
use Rattle.std.specs.List.{flat_map}
use Rattle.std.proofs.lemmas.List.Sums.{sum-map, sum_by-cons}
use Rattle.cd_term.specs.declared.Term.{Term}
use Rattle.cd_term.specs.declared.Term.TheVariants.{Var, App}
use Rattle.cd_term.proofs.Equations.{fold-Var, fold-App}
use Rattle.cd_term.proofs.TermInduction.{Each, ind}
use Rattle.cd_kbo.specs.declared.order.Order.{Order}
use Rattle.cd_kbo.specs.Orders.{weight_at, rank_at}
use Rattle.cd_kbo.specs.Kbo.{weight_step, weight_of, occurrences_step, occurrences, key_step, weight_and_key, ground_key}

pub weight_of-Var : (o : Order) (n : ℕ) → weight_of o (Var n) ≡ 1
weight_of-Var o = fold-Var ℕ (weight_step o)

pub weight_of-App : (o : Order) (f : ℕ) (ts : List Term) → weight_of o (App f ts) ≡ weight_at o f + sum_by (weight_of o) ts
weight_of-App o f ts = fold-App ℕ (weight_step o) f ts ∙ ap (λ n. weight_at o f + n) (sum-map (weight_of o) ts)

pub occurrences-Var : (k n : ℕ) → occurrences k (Var n) ≡ if nat_eq n k then 1 else 0
occurrences-Var k = fold-Var ℕ (occurrences_step k)

pub occurrences-App : (k f : ℕ) (ts : List Term) → occurrences k (App f ts) ≡ sum_by (occurrences k) ts
occurrences-App k f ts = fold-App ℕ (occurrences_step k) f ts ∙ sum-map (occurrences k) ts

pair-Var : (o : Order) (n : ℕ) → weight_and_key o (Var n) ≡ (1, 1 ∷ 0 ∷ [])
pair-Var o = fold-Var (ℕ × List ℕ) (key_step o)

added : (o : Order) (ts : List Term) → Each (λ t. (weight_and_key o t).0 ≡ weight_of o t) ts →
    sum_by (λ (r : ℕ × List ℕ). r.0) (map (weight_and_key o) ts) ≡ sum_by (weight_of o) ts
added o [] h = refl
added o (t ∷ ts) h = omega (
  arith,
  added o ts h.1,
  h.0,
  sum_by-cons (weight_of o) t ts,
  sum_by-cons (λ (r : ℕ × List ℕ). r.0) (weight_and_key o t) (map (weight_and_key o) ts),
)

firsts : (o : Order) (ts : List Term) → Each (λ t. (weight_and_key o t).0 ≡ weight_of o t) ts →
    sum (map (λ r. r.0) (map (weight_and_key o) ts)) ≡ sum_by (weight_of o) ts
firsts o ts h = sum-map (λ (r : ℕ × List ℕ). r.0) (map (weight_and_key o) ts) ∙ added o ts h

seconds : (o : Order) (ts : List Term) → flat_map (λ r. r.1) (map (weight_and_key o) ts) ≡ flat_map (ground_key o) ts
seconds o [] = refl
seconds o (t ∷ ts) = cc (seconds o ts)

many : (o : Order) (ts : List Term) → length (map (weight_and_key o) ts) ≡ length ts
many o [] = refl
many o (t ∷ ts) = omega (arith, many o ts)

pub same_weight : (o : Order) (t : Term) → (weight_and_key o t).0 ≡ weight_of o t
same_weight o = ind (λ t. (weight_and_key o t).0 ≡ weight_of o t)
    (λ n. ap (λ (p : ℕ × List ℕ). p.0) (pair-Var o n) ∙ sym (weight_of-Var o n))
    (λ f ts h. ap (λ (p : ℕ × List ℕ). p.0) (fold-App (ℕ × List ℕ) (key_step o) f ts) ∙
    ap (λ n. weight_at o f + n) (firsts o ts h) ∙ sym (weight_of-App o f ts))

pub ground_key-Var : (o : Order) (n : ℕ) → ground_key o (Var n) ≡ 1 ∷ 0 ∷ []
ground_key-Var o n = ap (λ (p : ℕ × List ℕ). p.1) (pair-Var o n)

each_weight : (o : Order) (ts : List Term) → Each (λ t. (weight_and_key o t).0 ≡ weight_of o t) ts
each_weight o [] = tt
each_weight o (t ∷ ts) = (same_weight o t, each_weight o ts)

pub ground_key-App : (o : Order) (f : ℕ) (ts : List Term) →
    ground_key o (App f ts) ≡ weight_of o (App f ts) ∷ 1 ∷ rank_at o f ∷ length ts ∷ f ∷ flat_map (ground_key o) ts
ground_key-App o f ts =
    let w : weight_at o f + sum (map (λ r. r.0) (map (weight_and_key o) ts)) ≡ weight_of o (App f ts) =
    ap (λ n. weight_at o f + n) (firsts o ts (each_weight o ts)) ∙ sym (weight_of-App o f ts) in
    ap (λ (p : ℕ × List ℕ). p.1) (fold-App (ℕ × List ℕ) (key_step o) f ts) ∙
    (λ i. w i ∷ 1 ∷ rank_at o f ∷ many o ts i ∷ f ∷ seconds o ts i)

pub ruleset order_equations = (weight_of-Var, weight_of-App, occurrences-Var, occurrences-App)
