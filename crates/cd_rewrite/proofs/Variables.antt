-- A variable isn't greater than a term that it occurs in, whatever stands for it.
use Rattle.std.proofs.Common.{◌≡◌, ℕ, ◌<◌, ◌≤◌, true, List, [], ◌∷◌, map, sum_by, ap, subst, sym, ◌∙◌, arith}
use Rattle.std.proofs.lemmas.Bool.{eqb-true}
use Rattle.std.proofs.lemmas.List.Sums.{sum_by-cons}
use Rattle.cd_term.specs.declared.Term.{Term}
use Rattle.cd_term.specs.declared.Term.TheVariants.{Var, App}
use Rattle.cd_term.specs.Terms.{greatest, occurs, substituted}
use Rattle.cd_term.proofs.TermInduction.{ind, Each}
use Rattle.cd_term.proofs.Equations.{occurs-Var, occurs-App, substituted-Var, substituted-App}
use Rattle.cd_kbo.specs.declared.order.Order.{Order}
use Rattle.cd_kbo.specs.Kbo.{weight_of, Greater, Every}
use Rattle.cd_kbo.proofs.KboEquations.{weight_of-App}
use Rattle.cd_kbo.proofs.KboLemmas.{irreflexive}
use Rattle.cd_rewrite.specs.Equations.{Falls}
use Rattle.cd_rewrite.proofs.Turns.{greater_weight}
use Rattle.cd_rewrite.proofs.Matched.{Grows, value_le, values_le}

most_sum : (m : Term → ℕ) (ts : List Term) → greatest (map m ts) ≤ sum_by m ts
most_sum m [] = omega arith
most_sum m (t ∷ ts) = omega (arith, most_sum m ts, sum_by-cons m t ts)

weight_grows : (o : Order) → Grows (weight_of o)
weight_grows o f ts = omega (arith, weight_of-App o f ts, most_sum (weight_of o) ts)

each_value : (o : Order) (g : ℕ → Term) (k : ℕ) (ts : List Term) → Each (λ t. occurs k t ≡ true → weight_of o (g k) ≤ weight_of o (substituted g t)) ts
each_value o g k [] = tt
each_value o g k (t ∷ ts) = (value_le (weight_of o) (weight_grows o) g k t, each_value o g k ts)

heavier : (o : Order) (g : ℕ → Term) (k f : ℕ) (ts : List Term) → occurs k (App f ts) ≡ true → weight_of o (g k) < weight_of o (substituted g (App f ts))
heavier o g k f ts there = omega (
  arith,
  ap (weight_of o) (substituted-App g f ts),
  weight_of-App o f (map (substituted g) ts),
  values_le (weight_of o) g k ts (each_value o g k ts) (sym (occurs-App k f ts) ∙ there),
  most_sum (weight_of o) (map (substituted g) ts),
  o.in_range.positive f,
)

below_itself : (o : Order) (g : ℕ → Term) (k : ℕ) (to : Term) → occurs k to ≡ true → Greater o (g k) (substituted g to) → ⊥
below_itself o g k = ind (λ t. occurs k t ≡ true → Greater o (g k) (substituted g t) → ⊥)
    (λ n there up. (let is : n ≡ k = eqb-true n k (sym (occurs-Var k n) ∙ there) in
    irreflexive Every o (g k) (substituted g (Var n)) up (sym (substituted-Var g n ∙ ap g is))))
    (λ f ts each there up. absurd (omega (arith, heavier o g k f ts there, greater_weight o (g k) (substituted g (App f ts)) up)))

pub variable_lowers_none : (from to : Term) (k : ℕ) → from ≡ Var k → occurs k to ≡ true → (o : Order) (t : Term) (g : ℕ → Term) → Falls o from to g t → ⊥
variable_lowers_none from to k is there o t g falls =
    below_itself o g k to there
    (subst (λ u. Greater o u (substituted g to)) (sym falls.1 ∙ ap (substituted g) is ∙ substituted-Var g k) falls.2)
