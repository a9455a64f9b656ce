-- What is greater stays greater under a substitution.
use Rattle.std.proofs.Common.{◌≡◌, ◌≢◌, ℕ, ◌+◌, ◌-◌, ◌<◌, ◌≤◌, Bool, true, false, inl, inr, if◌then◌else◌, nat_eq, ◌||◌, List, [], ◌∷◌, ◌++◌, length, map, sum_by, ap, subst, refl, sym, ◌∙◌, arith}
use Rattle.std.specs.List.{flat_map}
use Rattle.std.proofs.lemmas.Bool.{cases_lt, eqb-true}
use Rattle.std.proofs.lemmas.List.{length-map, map-append}
use Rattle.std.proofs.lemmas.List.Sums.{sum_by-cons, sum_by-append}
use Rattle.cd_list.proofs.Numbers.{equal_itself}
use Rattle.cd_term.specs.declared.Term.{Term}
use Rattle.cd_term.specs.declared.Term.TheVariants.{Var, App}
use Rattle.cd_term.specs.Terms.{substituted, variables_of, occurs}
use Rattle.cd_term.proofs.TermInduction.{Each, ind}
use Rattle.cd_term.proofs.Equations.{substituted-Var, substituted-App, variables_of-Var, variables_of-App}
use Rattle.cd_term.proofs.Substitutions.{substituted-identity}
use Rattle.cd_term.proofs.VariableLaws.{known, occurs-variables}
use Rattle.cd_kbo.specs.declared.order.Order.{Order}
use Rattle.cd_kbo.specs.Kbo.{weight_of, occurrences, Every, Covers, Precedes, FirstDifference, by_weight, by_head, by_argument, Greater, ground_key}
use Rattle.cd_kbo.proofs.KboEquations.{weight_of-Var, weight_of-App, occurrences-Var, occurrences-App}
use Rattle.cd_kbo.proofs.KboLemmas.{irreflexive, above, heads_forth}
use Rattle.cd_kbo.proofs.Orderings.{less_not_greater}
use Rattle.cd_kbo.proofs.Small.{weight_positive}

occurs_all : (k : ℕ) (g : ℕ → Term) (ts : List Term) → Each (λ t. occurrences k (substituted g t) ≡ sum_by (λ n. occurrences k (g n)) (variables_of t)) ts →
    sum_by (occurrences k) (map (substituted g) ts) ≡ sum_by (λ n. occurrences k (g n)) (flat_map variables_of ts)
occurs_all k g [] e = refl
occurs_all k g (t ∷ ts) e = omega (
  arith,
  e.0,
  occurs_all k g ts e.1,
  sum_by-cons (occurrences k) (substituted g t) (map (substituted g) ts),
  sum_by-append (λ n. occurrences k (g n)) (variables_of t) (flat_map variables_of ts),
)

pub occurrences_instance : (k : ℕ) (g : ℕ → Term) (t : Term) → occurrences k (substituted g t) ≡ sum_by (λ n. occurrences k (g n)) (variables_of t)
occurrences_instance k g = ind (λ t. occurrences k (substituted g t) ≡ sum_by (λ n. occurrences k (g n)) (variables_of t))
    (λ n. omega (
      arith,
      ap (occurrences k) (substituted-Var g n),
      ap (sum_by (λ m. occurrences k (g m))) (variables_of-Var n),
      sum_by-cons (λ m. occurrences k (g m)) n [],
    ))
    (λ f ts e. omega (
      arith,
      ap (occurrences k) (substituted-App g f ts),
      occurrences-App k f (map (substituted g) ts),
      occurs_all k g ts e,
      ap (sum_by (λ m. occurrences k (g m))) (variables_of-App f ts),
    ))

-- what the variables weigh more in an instance
abbrev extra : Order → (ℕ → Term) → ℕ → ℕ
extra o g n = weight_of o (g n) - 1

abbrev more : Order → (ℕ → Term) → Term → ℕ
more o g t = sum_by (extra o g) (variables_of t)

weights_all : (o : Order) (g : ℕ → Term) (ts : List Term) → Each (λ t. weight_of o (substituted g t) ≡ weight_of o t + more o g t) ts →
    sum_by (weight_of o) (map (substituted g) ts) ≡ sum_by (weight_of o) ts + sum_by (extra o g) (flat_map variables_of ts)
weights_all o g [] e = omega arith
weights_all o g (t ∷ ts) e = omega (
  arith,
  e.0,
  weights_all o g ts e.1,
  sum_by-cons (weight_of o) (substituted g t) (map (substituted g) ts),
  sum_by-cons (weight_of o) t ts,
  sum_by-append (extra o g) (variables_of t) (flat_map variables_of ts),
)

weight_instance : (o : Order) (g : ℕ → Term) (t : Term) → weight_of o (substituted g t) ≡ weight_of o t + more o g t
weight_instance o g = ind (λ t. weight_of o (substituted g t) ≡ weight_of o t + more o g t)
    (λ n. omega (
      arith,
      ap (weight_of o) (substituted-Var g n),
      weight_of-Var o n,
      ap (sum_by (extra o g)) (variables_of-Var n),
      sum_by-cons (extra o g) n [],
      weight_positive o (g n),
    ))
    (λ f ts e. omega (
      arith,
      ap (weight_of o) (substituted-App g f ts),
      weight_of-App o f (map (substituted g) ts),
      weight_of-App o f ts,
      weights_all o g ts e,
      ap (sum_by (extra o g)) (variables_of-App f ts),
    ))

-- numbers that are counted no more often sum up to no more
abbrev counts : ℕ → ℕ → ℕ
counts k n = occurrences k (Var n)

abbrev Rest : ℕ → List ℕ → Type 0
Rest x ys = (rest : List ℕ) × ((h : ℕ → ℕ) → sum_by h ys ≡ h x + sum_by h rest)

taken_step : (x y : ℕ) (ys : List ℕ) (b : Bool) → nat_eq y x ≡ b → 1 ≤ sum_by (counts x) (y ∷ ys) → (1 ≤ sum_by (counts x) ys → Rest x ys) → Rest x (y ∷ ys)
taken_step x y ys true e le next = (ys, λ h. sum_by-cons h y ys ∙ ap (λ n. h n + sum_by h ys) (eqb-true y x e))
taken_step x y ys false e le next =
    let none : counts x y ≡ 0 = occurrences-Var x y ∙ ap (λ (b : Bool). if b then 1 else 0) e in
    let found : Rest x ys = next (omega (arith, le, none, sum_by-cons (counts x) y ys)) in
    (y ∷ found.0, λ h. omega (arith, sum_by-cons h y ys, found.1 h, sum_by-cons h y found.0))

taken : (x : ℕ) (ys : List ℕ) → 1 ≤ sum_by (counts x) ys → Rest x ys
taken x [] le = absurd (omega (arith, le))
taken x (y ∷ ys) le = taken_step x y ys (nat_eq y x) refl le (taken x ys)

sums_cover : (h : ℕ → ℕ) (xs ys : List ℕ) → ((k : ℕ) → sum_by (counts k) xs ≤ sum_by (counts k) ys) → sum_by h xs ≤ sum_by h ys
sums_cover h [] ys le = omega arith
sums_cover h (x ∷ xs) ys le =
    let here : counts x x ≡ 1 = occurrences-Var x x ∙ ap (λ (b : Bool). if b then 1 else 0) (equal_itself x) in
    let found : Rest x ys = taken x ys (omega (arith, here, sum_by-cons (counts x) x xs, le x)) in
    omega (
      arith,
      sum_by-cons h x xs,
      found.1 h,
      sums_cover h xs found.0 (λ k. omega (arith, le k, sum_by-cons (counts k) x xs, found.1 (counts k))),
    )

counted : (k : ℕ) (t : Term) → occurrences k t ≡ sum_by (counts k) (variables_of t)
counted k t = ap (occurrences k) (sym (substituted-identity t)) ∙ occurrences_instance k Var t

covered_sum : (h : ℕ → ℕ) (s t : Term) → Covers Every s t → sum_by h (variables_of t) ≤ sum_by h (variables_of s)
covered_sum h s t c = sums_cover h (variables_of t) (variables_of s) (λ k. omega (arith, counted k s, counted k t, c.at_each k tt))

covers_instance : (g : ℕ → Term) (s t : Term) → Covers Every s t → Covers Every (substituted g s) (substituted g t)
covers_instance g s t c = record {
  at_each = λ k v. omega (arith, occurrences_instance k g s, occurrences_instance k g t, covered_sum (λ n. occurrences k (g n)) s t c);
}

heavier : (o : Order) (g : ℕ → Term) (s t : Term) → Covers Every s t → weight_of o t < weight_of o s → Greater o (substituted g s) (substituted g t)
heavier o g s t c w = by_weight (substituted g s) (substituted g t) (covers_instance g s t c)
    (omega (arith, w, weight_instance o g s, weight_instance o g t, covered_sum (extra o g) s t c))

-- where the weights are equal, those of the instances are, or the one is heavier
as_heavy : (o : Order) (g : ℕ → Term) (s t : Term) → Covers Every s t → weight_of o t ≡ weight_of o s →
    (weight_of o (substituted g t) ≡ weight_of o (substituted g s) → Greater o (substituted g s) (substituted g t)) → Greater o (substituted g s) (substituted g t)
as_heavy o g s t c w same = elim (cases_lt (more o g t) (more o g s)) [
  | inl lt ↦ by_weight (substituted g s) (substituted g t) (covers_instance g s t c) (omega (arith, w, lt, weight_instance o g s, weight_instance o g t))
  | inr le ↦ same (omega (arith, w, le, weight_instance o g s, weight_instance o g t, covered_sum (extra o g) s t c))
]

split : (g : ℕ → Term) (f : ℕ) (before after : List Term) (s a : Term) → s ≡ App f (before ++ a ∷ after) →
    substituted g s ≡ App f (map (substituted g) before ++ substituted g a ∷ map (substituted g) after)
split g f before after s a is = ap (substituted g) is ∙ substituted-App g f (before ++ a ∷ after) ∙ ap (App f) (map-append (substituted g) before (a ∷ after))

difference : (o : Order) (g : ℕ → Term) (s t a b : Term) → FirstDifference s t a b → substituted g a ≢ substituted g b →
    FirstDifference (substituted g s) (substituted g t) (substituted g a) (substituted g b)
difference o g s t a b d apart = record {
  head = d.head;
  before = map (substituted g) d.before;
  after_a = map (substituted g) d.after_a;
  after_b = map (substituted g) d.after_b;
  left = split g d.head d.before d.after_a s a d.left;
  right = split g d.head d.before d.after_b t b d.right;
  as_many = length-map d.after_a (substituted g) ∙ d.as_many ∙ sym (length-map d.after_b (substituted g));
  differ = apart;
}

heads : (o : Order) (g : ℕ → Term) (f k : ℕ) (ss ts : List Term) → Precedes o k (length ts) f (length ss) →
    Precedes o k (length (map (substituted g) ts)) f (length (map (substituted g) ss))
heads o g f k ss ts h = subst (λ m. Precedes o k m f (length (map (substituted g) ss))) (sym (length-map ts (substituted g)))
    (subst (λ n. Precedes o k (length ts) f n) (sym (length-map ss (substituted g))) h)

-- what is greater stays greater under a substitution
pub greater_stable : (o : Order) (g : ℕ → Term) (s t : Term) → Greater o s t → Greater o (substituted g s) (substituted g t)
greater_stable o g s t (by_weight _ _ c w) = heavier o g s t c w
greater_stable o g s t (by_head _ _ f k ss ts c w p q h) = as_heavy o g s t c w (λ same.
    by_head (substituted g s) (substituted g t) f k (map (substituted g) ss) (map (substituted g) ts) (covers_instance g s t c) same
    (ap (substituted g) p ∙ substituted-App g f ss) (ap (substituted g) q ∙ substituted-App g k ts) (heads o g f k ss ts h))
greater_stable o g s t (by_argument _ _ a b c w d r) = as_heavy o g s t c w (λ same.
    by_argument (substituted g s) (substituted g t) (substituted g a) (substituted g b) (covers_instance g s t c) same
    (difference o g s t a b d (irreflexive Every o (substituted g a) (substituted g b) (greater_stable o g a b r))) (greater_stable o g a b r))

-- a variable occurs where it is counted, and the other way round
occurs_step : (k n : ℕ) (ns : List ℕ) (b : Bool) → nat_eq n k ≡ b → (known k ns ≡ true → 1 ≤ sum_by (counts k) ns) → (b || known k ns) ≡ true →
    1 ≤ sum_by (counts k) (n ∷ ns)
occurs_step k n ns true e rest h = omega (
  arith,
  sum_by-cons (counts k) n ns,
  occurrences-Var k n,
  ap {B = ℕ} (λ (b : Bool). if b then 1 else 0) e,
)
occurs_step k n ns false e rest h = omega (arith, rest h, sum_by-cons (counts k) n ns)

known_counted : (k : ℕ) (ns : List ℕ) → known k ns ≡ true → 1 ≤ sum_by (counts k) ns
known_counted k [] h = absurd (cc)
known_counted k (n ∷ ns) h = occurs_step k n ns (nat_eq n k) refl (known_counted k ns) h

counts_step : (k n : ℕ) (ns : List ℕ) (b : Bool) → nat_eq n k ≡ b → (1 ≤ sum_by (counts k) ns → known k ns ≡ true) → 1 ≤ sum_by (counts k) (n ∷ ns) →
    (b || known k ns) ≡ true
counts_step k n ns true e rest le = refl
counts_step k n ns false e rest le = rest (omega (
  arith,
  le,
  sum_by-cons (counts k) n ns,
  occurrences-Var k n,
  ap {B = ℕ} (λ (b : Bool). if b then 1 else 0) e,
))

counted_known : (k : ℕ) (ns : List ℕ) → 1 ≤ sum_by (counts k) ns → known k ns ≡ true
counted_known k [] le = absurd (omega (arith, le))
counted_known k (n ∷ ns) le = counts_step k n ns (nat_eq n k) refl (counted_known k ns) le

covers_of : (o : Order) (s t : Term) → Greater o s t → Covers Every s t
covers_of o s t (by_weight _ _ c w) = c
covers_of o s t (by_head _ _ f g ss ts c w p q h) = c
covers_of o s t (by_argument _ _ a b c w d g) = c

-- every variable of a term occurs in what is greater
pub greater_has_variables : (o : Order) (s t : Term) → Greater o s t → (k : ℕ) → occurs k t ≡ true → occurs k s ≡ true
greater_has_variables o s t g k there =
    occurs-variables s k
    ∙ counted_known k (variables_of s) (omega (
      arith,
      known_counted k (variables_of t) (sym (occurs-variables t k) ∙ there),
      counted k t,
      counted k s,
      (covers_of o s t g).at_each k tt,
    ))

-- of two terms not each is greater than the other
pub never_both : (o : Order) (s t : Term) → Greater o s t → Greater o t s → ⊥
never_both o s t a b = less_not_greater (sym (heads_forth (ground_key o t) (ground_key o s) (above Every o t s b)) ∙ above Every o s t a)
