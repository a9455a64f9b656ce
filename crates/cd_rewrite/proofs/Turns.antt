-- A side of an equation that lowers a term.
use Rattle.std.proofs.Common.{◌≡◌, ℕ, zero, suc, ◌-◌, ◌^◌, ◌≤◌, ◌<◌, min, ◌⊎◌, inl, inr, Bool, true, false, IsTrue, ◌↔◌, List, [], ◌∷◌, length, sum_by, ap, subst, refl, sym, ◌∙◌, arith, Option, Some}
use Rattle.std.proofs.lemmas.List.Sums.{sum_by-cons}
use Rattle.cd_term.specs.declared.Term.{Term}
use Rattle.cd_term.specs.declared.Term.TheVariants.{Var, App}
use Rattle.cd_term.specs.Terms.{size_of, variables_of, substituted, applied, value_of, IsWithin, IsMeasure}
use Rattle.cd_term.specs.Laws.{AgreementDecides}
use Rattle.cd_term.proofs.Equations.{size_of-Var, size_of-App}
use Rattle.cd_term.proofs.SizeLaws.{levels, size_of-substituted}
use Rattle.cd_term.proofs.Occurrence.{substituted-agree}
use Rattle.cd_term.proofs.VariableLaws.{agrees-substituted}
use Rattle.cd_term.proofs.MarkLemmas.{Var-App-apart}
use Rattle.cd_term.proofs.TermInduction.{Each, ind}
use Rattle.cd_clause.specs.declared.Atom.{Atom}
use Rattle.cd_clause.specs.declared.Atom.TheVariants.{Equal}
use Rattle.cd_clause.specs.declared.Literal.{Literal}
use Rattle.cd_clause.specs.declared.Clause.{Clause}
use Rattle.cd_clause.specs.Places.{signed}
use Rattle.cd_kbo.specs.declared.order.Order.{Order}
use Rattle.cd_kbo.specs.Kbo.{weight_of, Greater, by_weight, by_head, by_argument}
use Rattle.cd_kbo.proofs.KboEquations.{weight_of-Var, weight_of-App}
use Rattle.cd_kbo.proofs.Small.{weight_small}
use Rattle.cd_kbo.proofs.Stable.{greater_stable}
use Rattle.cd_unify.specs.Unifiers.{Fits}
use Rattle.cd_unify.specs.Bindings.{Binds, TermBinds}
use Rattle.cd_rewrite.specs.Reduction.{IsRule, HasVariablesOf, Lowers}
use Rattle.cd_rewrite.specs.Equations.{equation_clause, Falls, LowersTerm}
use Rattle.cd_rewrite.specs.Walks.{IsLowering}

sums : (f g : Term → ℕ) (ts : List Term) → Each (λ t. f t ≤ g t) ts → sum_by f ts ≤ sum_by g ts
sums f g [] h = omega arith
sums f g (t ∷ ts) h = omega (arith, sums f g ts h.1, h.0, sum_by-cons f t ts, sum_by-cons g t ts)

-- a term weighs no less than its size
pub weight_large : (o : Order) (t : Term) → size_of t ≤ weight_of o t
weight_large o = ind (λ t. size_of t ≤ weight_of o t)
    (λ n. omega (arith, weight_of-Var o n, size_of-Var n))
    (λ f ts h. omega (arith, weight_of-App o f ts, size_of-App f ts, sums size_of (weight_of o) ts h, o.in_range.positive f))

pub greater_weight : (o : Order) (s t : Term) → Greater o s t → weight_of o t ≤ weight_of o s
greater_weight o s t (by_weight _ _ c w) = omega (arith, w)
greater_weight o s t (by_head _ _ f g ss ts c w p q h) = omega (arith, w)
greater_weight o s t (by_argument _ _ a b c w d g) = omega (arith, w)

-- a term that weighs less than another one has symbols isn't greater than any instance of it
no_less : (g : ℕ → Term) (ns : List ℕ) → length ns ≤ sum_by (λ n. size_of (g n)) ns
no_less g [] = omega arith
no_less g (n ∷ ns) = omega (arith, no_less g ns, sum_by-cons (λ k. size_of (g k)) n ns, (levels (g n)).0, (levels (g n)).1)

pub too_light : (o : Order) (t to : Term) (g : ℕ → Term) → weight_of o t < size_of to → Greater o t (substituted g to) → ⊥
too_light o t to g lt down =
    omega (arith, lt, greater_weight o t (substituted g to) down, weight_large o (substituted g to), size_of-substituted g to, no_less g (variables_of to))

pub too_light_at : (o : Order) (t to : Term) (most symbols : ℕ) → most ≡ min (weight_of o t) (2 ^ 64 - 1) → symbols ≡ min (size_of to) (2 ^ 64 - 1) → most < symbols →
    (g : ℕ → Term) → Greater o t (substituted g to) → ⊥
too_light_at o t to most symbols is other lt g down = too_light o t to g (omega (arith, is, other, lt)) down

-- a term that is larger than what another one weighs isn't smaller
pub too_large : (o : Order) (old new : Term) (most : ℕ) → size_of old ≤ 65535 → most ≡ min (weight_of o old) (2 ^ 64 - 1) → ¬ IsWithin most most new → Greater o old new → ⊥
too_large o old new most le is out g =
    let size : size_of new ≤ most = omega (arith, le, is, weight_large o new, greater_weight o old new g, weight_small o old) in
    out (size, omega (arith, size, (levels new).1))

pub most_small : (o : Order) (old : Term) (most : ℕ) → size_of old ≤ 65535 → most ≡ min (weight_of o old) (2 ^ 64 - 1) → most < 2 ^ 32
most_small o old most le is = omega (arith, le, is, weight_small o old)

-- an instance that was measured
pub too_large_at : (o : Order) (old to : Term) (most : ℕ) (s xs : List Term) → size_of old ≤ 65535 → most ≡ min (weight_of o old) (2 ^ 64 - 1) →
    ¬ IsWithin most most (applied xs to) → xs ≡ s → Greater o old (applied s to) → ⊥
too_large_at o old to most s xs le is out same =
    subst (λ ys. Greater o old (applied ys to) → ⊥) same (too_large o old (applied xs to) most le is out)

pub small_at : (o : Order) (old to new : Term) (most n : ℕ) (xs ys : List Term) → size_of old ≤ 65535 → most ≡ min (weight_of o old) (2 ^ 64 - 1) →
    IsMeasure most most (applied xs to) (Some n) → new ≡ applied ys to → ys ≡ xs → size_of new < 2 ^ 32
small_at o old to new most n xs ys le is m built same =
    omega (arith, most_small o old most le is, m.1.0, ap size_of built, ap (λ zs. size_of (applied zs to)) same)

pub above_at : (o : Order) (old to new : Term) (s xs : List Term) (b : Bool) → (IsTrue b ↔ Greater o old new) → new ≡ applied xs to → xs ≡ s →
    (IsTrue b ↔ Greater o old (applied s to))
above_at o old to new s xs b test built same =
    subst (λ u. IsTrue b ↔ Greater o old u) (built ∙ ap (λ ys. applied ys to) same) test

-- matching
pub no_match : (vs ws : List (Option Term)) (t u : Term) (r : Bool) → ((g : ℕ → Term) → Fits g vs) → Binds (TermBinds t u) vs ws r → r ≡ false →
    (g : ℕ → Term) → substituted g t ≡ u → ⊥
no_match vs ws t u r free binds out g e =
    let was : r ≡ true = ((binds g).0 (free g, e)).0 in let both : true ≡ false = sym was ∙ out in absurd (cc)

pub matched : (vs ws : List (Option Term)) (t u : Term) (r : Bool) (s : List Term) → Binds (TermBinds t u) vs ws r → r ≡ true → Fits (value_of s) ws → applied s t ≡ u
matched vs ws t u r s binds ok fits = ((binds (value_of s)).1 (ok, fits)).1

-- substitutions that make one side the same term make the other one the same
pub same_instance : (from to t : Term) (g h : ℕ → Term) → HasVariablesOf from to → AgreementDecides → substituted g from ≡ t → substituted h from ≡ t →
    substituted g to ≡ substituted h to
same_instance from to t g h covered agree a b =
    (agree g h to).0 (λ n o. (agree g h from).1 (a ∙ sym b) n (covered n o))

pub agreement : AgreementDecides
agreement g h t = (substituted-agree g h t, λ same n o. agrees-substituted g h n t same o)

-- the instance that was looked at isn't smaller
pub no_fall : (o : Order) (from to t : Term) (s : List Term) (b : Bool) → applied s from ≡ t →
    (IsTrue b ↔ (HasVariablesOf from to × Greater o t (applied s to))) → b ≡ false → (g : ℕ → Term) → Falls o from to g t → ⊥
no_fall o from to t s b is test out g falls =
    let was : b ≡ true =
    test.1 (falls.0, subst (Greater o t) (same_instance from to t g (value_of s) falls.0 agreement falls.1 is) falls.2) in
    let both : true ≡ false = sym was ∙ out in absurd (cc)

-- an instance of a greater side is greater
pub falls_already : (o : Order) (from to t : Term) (s : List Term) → Greater o from to → applied s from ≡ t → Greater o t (applied s to)
falls_already o from to t s down is = subst (λ u. Greater o u (applied s to)) is (greater_stable o (value_of s) from to down)

-- the sides of an equation
pub atoms_same : (s t u v : Term) → Equal s t ≡ Equal u v → (s ≡ u) × (t ≡ v)
atoms_same s t u v e = (cc, cc)

pub the_atom : (a b : Atom) → signed true a ∷ [] ≡ signed true b ∷ [] → a ≡ b
the_atom a b e = let one : signed true a ≡ signed true b = cc in ap (λ (l : Literal). l.atom) one

rule_parts : (left right from to : Term) (side : ℕ) → IsRule (equation_clause left right) side from to →
    ((side ≡ 0) × (left ≡ from) × (right ≡ to)) ⊎ ((side ≡ 1) × (right ≡ from) × (left ≡ to))
rule_parts left right from to zero r =
    let both = atoms_same left right from to (the_atom (Equal left right) r.equation r.one ∙ r.sides) in inl (refl, both.0, both.1)
rule_parts left right from to (suc zero) r =
    let both = atoms_same left right to from (the_atom (Equal left right) r.equation r.one ∙ r.sides) in inr (refl, both.1, both.0)
rule_parts left right from to (suc (suc n)) r = absurd r.sides

falls_of : (o : Order) (e : Clause) (side : ℕ) (from to : Term) (g : ℕ → Term) (t new : Term) (l : Lowers o e side g t new) → from ≡ l.from → to ≡ l.to → Falls o from to g t
falls_of o e side from to g t new l a b = (
  subst (λ x. HasVariablesOf x to) (sym a) (subst (HasVariablesOf l.from) (sym b) l.covered),
  ap (substituted g) a ∙ l.matched,
  subst (Greater o t) (sym (ap (substituted g) b ∙ l.result)) l.falls,
)

pub lowers_parts : (o : Order) (left right : Term) (side : ℕ) (g : ℕ → Term) (t new : Term) → Lowers o (equation_clause left right) side g t new →
    ((side ≡ 0) × Falls o left right g t) ⊎ ((side ≡ 1) × Falls o right left g t)
lowers_parts o left right side g t new l = elim (rule_parts left right l.from l.to side l.rule) [
  | inl p ↦ inl (p.0, falls_of o (equation_clause left right) side left right g t new l p.1 p.2)
  | inr p ↦ inr (p.0, falls_of o (equation_clause left right) side right left g t new l p.1 p.2)
]

pub lowers_none : (o : Order) (left right t : Term) → ((g : ℕ → Term) → Falls o left right g t → ⊥) → ((g : ℕ → Term) → Falls o right left g t → ⊥) →
    LowersTerm o (equation_clause left right) t → ⊥
lowers_none o left right t first second on = elim (lowers_parts o left right on.0 on.1 t on.2 on.3) [
  | inl p ↦ first on.1 p.1
  | inr p ↦ second on.1 p.1
]

-- a variable isn't lowered
pub no_variable : (o : Order) (e : Clause) (t : Term) (n : ℕ) → t ≡ Var n → LowersTerm o e t → ⊥
no_variable o e t n is on = on.3.compound n is

-- what a side that lowers a term makes of it
make : (o : Order) (e : Clause) (side : ℕ) (from to t : Term) (f : ℕ) (ts s : List Term) → IsRule e side from to → t ≡ App f ts → Falls o from to (value_of s) t →
    Lowers o e side (value_of s) t (applied s to)
make o e side from to t f ts s rule is falls = record {
  from = from;
  to = to;
  rule = rule;
  covered = falls.0;
  matched = falls.1;
  result = refl;
  compound = λ n e. Var-App-apart n f ts (sym (sym is ∙ e));
  falls = falls.2;
}

pub left_lowers : (o : Order) (left right : Term) (vars : ℕ) (t : Term) (f : ℕ) (ts s : List Term) → t ≡ App f ts → length s ≡ vars →
    Falls o left right (value_of s) t → IsLowering o (equation_clause left right) vars t 0 s
left_lowers o left right vars t f ts s is covers falls = record {
  new = applied s right;
  covers = covers;
  lowers = make o (equation_clause left right) 0 left right t f ts s (record { equation = Equal left right; one = refl; sides = refl }) is falls;
  least = λ other g u l. omega arith;
}

pub right_lowers : (o : Order) (left right : Term) (vars : ℕ) (t : Term) (f : ℕ) (ts s : List Term) → t ≡ App f ts → ((g : ℕ → Term) → Falls o left right g t → ⊥) →
    length s ≡ vars → Falls o right left (value_of s) t → IsLowering o (equation_clause left right) vars t 1 s
right_lowers o left right vars t f ts s is none covers falls = record {
  new = applied s left;
  covers = covers;
  lowers = make o (equation_clause left right) 1 right left t f ts s (record { equation = Equal left right; one = refl; sides = refl }) is falls;
  least = λ other g u l. elim (lowers_parts o left right other g t u l) [
    | inl p ↦ absurd (none g p.1)
    | inr p ↦ omega (arith, p.0)
  ];
}

pub count_size : (ts : List Term) → length ts ≤ sum_by size_of ts
count_size [] = omega arith
count_size (t ∷ ts) = omega (arith, count_size ts, sum_by-cons size_of t ts, (levels t).0, (levels t).1)
