-- What follows from whether a variable occurs.
use Rattle.std.proofs.Common.{◌≡◌, ◌≢◌, ℕ, ◌+◌, ◌<◌, ◌≤◌, Bool, true, false, ◌⊎◌, inl, inr, List, [], ◌∷◌, map, nat_eq, sum_by, ap, subst, refl, sym, ◌∙◌, arith, if◌then◌else◌}
use Rattle.std.specs.List.{list_any}
use Rattle.std.proofs.lemmas.List.Sums.{sum_by-cons}
use Rattle.std.proofs.lemmas.Bool.{or_parts, or_cases, or_left, or_right, eqb-true}
use Rattle.cd_list.proofs.Numbers.{equal_itself}
use Rattle.cd_term.specs.declared.Term.{Term}
use Rattle.cd_term.specs.declared.Term.TheVariants.{Var, App}
use Rattle.cd_term.specs.Terms.{substituted, occurs, size_of, one, bound_of, greatest}
use Rattle.cd_term.proofs.TermInduction.{ind, Each}
use Rattle.cd_term.proofs.Equations.{substituted-Var, substituted-App, occurs-Var, occurs-App, size_of-App, bound_of-Var, bound_of-App}

-- whether a variable occurs in one of several terms
abbrev pub occurs_among : ℕ → List Term → Bool
occurs_among x ts = list_any (λ b. b) (map (occurs x) ts)

unbound_all : (x : ℕ) (u : Term) (ts : List Term) → Each (λ t. occurs x t ≡ false → substituted (one x u) t ≡ t) ts →
    occurs_among x ts ≡ false → map (substituted (one x u)) ts ≡ ts
unbound_all x u [] e o = refl
unbound_all x u (t ∷ ts) e o =
    let both = or_parts (occurs x t) (occurs_among x ts) o in
    let here = e.0 both.0 in let rest = unbound_all x u ts e.1 both.1 in cc

pub one_other : (x : ℕ) (u : Term) (n : ℕ) (b : Bool) → nat_eq n x ≡ b → b ≡ false → one x u n ≡ Var n
one_other x u n b is e = rw (is ∙ e)

-- the binding of a variable that doesn't occur changes nothing
pub substituted-unbound : (x : ℕ) (u t : Term) → occurs x t ≡ false → substituted (one x u) t ≡ t
substituted-unbound x u = ind (λ t. occurs x t ≡ false → substituted (one x u) t ≡ t)
    (λ n o. substituted-Var (one x u) n ∙ one_other x u n (nat_eq n x) refl (sym (occurs-Var x n) ∙ o))
    (λ f ts e o. substituted-App (one x u) f ts ∙ ap (App f) (unbound_all x u ts e (sym (occurs-App x f ts) ∙ o)))

among_size : (g : ℕ → Term) (x : ℕ) (ts : List Term) →
    Each (λ t. occurs x t ≡ true → size_of (g x) ≤ size_of (substituted g t)) ts →
    occurs_among x ts ≡ true → size_of (g x) ≤ sum_by size_of (map (substituted g) ts)
among_size g x [] e o = absurd (cc)
among_size g x (t ∷ ts) e o = elim (or_cases (occurs x t) (occurs_among x ts) o) [
  | inl here ↦ omega (arith, e.0 here, sum_by-cons size_of (substituted g t) (map (substituted g) ts))
  | inr there ↦ omega (arith, among_size g x ts e.1 there, sum_by-cons size_of (substituted g t) (map (substituted g) ts))
]

size_at_App : (g : ℕ → Term) (x f : ℕ) (ts : List Term) →
    Each (λ t. occurs x t ≡ true → size_of (g x) ≤ size_of (substituted g t)) ts →
    occurs x (App f ts) ≡ true → size_of (g x) + 1 ≤ size_of (substituted g (App f ts))
size_at_App g x f ts e o = omega (
  arith,
  ap size_of (substituted-App g f ts),
  size_of-App f (map (substituted g) ts),
  among_size g x ts e (sym (occurs-App x f ts) ∙ o),
)

-- the value of a variable is no larger than that of a term in which it occurs
pub size_of-occurs : (g : ℕ → Term) (x : ℕ) (t : Term) → occurs x t ≡ true → size_of (g x) ≤ size_of (substituted g t)
size_of-occurs g x = ind (λ t. occurs x t ≡ true → size_of (g x) ≤ size_of (substituted g t))
    (λ n o. omega (arith, ap size_of (substituted-Var g n), ap (λ k. size_of (g k)) (eqb-true n x (sym (occurs-Var x n) ∙ o))))
    (λ f ts e o. omega (arith, size_at_App g x f ts e o))

each_occurs : (g : ℕ → Term) (x : ℕ) (ts : List Term) → Each (λ t. occurs x t ≡ true → size_of (g x) ≤ size_of (substituted g t)) ts
each_occurs g x [] = tt
each_occurs g x (t ∷ ts) = (size_of-occurs g x t, each_occurs g x ts)

-- and smaller than that of an application in which it occurs, so no substitution makes the two equal
pub occurs_apart : (g : ℕ → Term) (x f : ℕ) (ts : List Term) → occurs x (App f ts) ≡ true → g x ≢ substituted g (App f ts)
occurs_apart g x f ts o e = omega (arith, size_at_App g x f ts (each_occurs g x ts) o, ap size_of e)

-- a variable that occurs is below the bound
among_bound : (x : ℕ) (ts : List Term) → Each (λ t. occurs x t ≡ true → x < bound_of t) ts →
    occurs_among x ts ≡ true → x < greatest (map bound_of ts)
among_bound x [] e o = absurd (cc)
among_bound x (t ∷ ts) e o = elim (or_cases (occurs x t) (occurs_among x ts) o) [
  | inl here ↦ omega (arith, e.0 here)
  | inr there ↦ omega (arith, among_bound x ts e.1 there)
]

pub occurs_below : (x : ℕ) (t : Term) → occurs x t ≡ true → x < bound_of t
occurs_below x = ind (λ t. occurs x t ≡ true → x < bound_of t)
    (λ n o. omega (arith, bound_of-Var n, eqb-true n x (sym (occurs-Var x n) ∙ o)))
    (λ f ts e o. omega (arith, bound_of-App f ts, among_bound x ts e (sym (occurs-App x f ts) ∙ o)))

-- what occurs after a binding: the variable itself is gone, unless it occurs in the value
abbrev pub OccursAfter : ℕ → ℕ → Term → Bool → Type 0
OccursAfter k x u before = ((before ≡ true) × (k ≢ x)) ⊎ (occurs k u ≡ true)

among_after : (k x : ℕ) (u : Term) (ts : List Term) →
    Each (λ t. occurs k (substituted (one x u) t) ≡ true → OccursAfter k x u (occurs k t)) ts →
    occurs_among k (map (substituted (one x u)) ts) ≡ true → OccursAfter k x u (occurs_among k ts)
among_after k x u [] e o = absurd (cc)
among_after k x u (t ∷ ts) e o =
    elim (or_cases (occurs k (substituted (one x u) t)) (occurs_among k (map (substituted (one x u)) ts)) o) [
      | inl here ↦ elim (e.0 here) [
        | inl p ↦ inl (rw p.0, p.1)
        | inr q ↦ inr q
      ]
      | inr there ↦ elim (among_after k x u ts e.1 there) [
        | inl p ↦ inl (or_right (occurs k t) (occurs_among k ts) p.0, p.1)
        | inr q ↦ inr q
      ]
    ]

one_after : (k x : ℕ) (u : Term) (n : ℕ) (b : Bool) → nat_eq n x ≡ b →
    occurs k (if b then u else Var n) ≡ true → OccursAfter k x u (occurs k (Var n))
one_after k x u n true is o = inr o
one_after k x u n false is o = inl (o, λ e. apart n k x is (eqb-true n k (sym (occurs-Var k n) ∙ o)) e)
  where
    apart : (n k x : ℕ) → nat_eq n x ≡ false → n ≡ k → k ≡ x → ⊥
    apart n k x f p q = grind (arith, f, p, q)

pub occurs_after : (k x : ℕ) (u t : Term) → occurs k (substituted (one x u) t) ≡ true → OccursAfter k x u (occurs k t)
occurs_after k x u = ind (λ t. occurs k (substituted (one x u) t) ≡ true → OccursAfter k x u (occurs k t))
    (λ n o. one_after k x u n (nat_eq n x) refl (sym (ap (occurs k) (substituted-Var (one x u) n)) ∙ o))
    (λ f ts e o. subst (OccursAfter k x u) (sym (occurs-App k f ts))
    (among_after k x u ts e (sym (ap (occurs k) (substituted-App (one x u) f ts) ∙ occurs-App k f (map (substituted (one x u)) ts)) ∙ o)))

among_agree : (g h : ℕ → Term) (ts : List Term) →
    Each (λ t. ((k : ℕ) → occurs k t ≡ true → g k ≡ h k) → substituted g t ≡ substituted h t) ts →
    ((k : ℕ) → occurs_among k ts ≡ true → g k ≡ h k) → map (substituted g) ts ≡ map (substituted h) ts
among_agree g h [] e same = refl
among_agree g h (t ∷ ts) e same =
    let here = e.0 (λ k o. same k (or_left (occurs k t) (occurs_among k ts) o)) in
    let rest = among_agree g h ts e.1 (λ k o. same k (or_right (occurs k t) (occurs_among k ts) o)) in cc

-- substitutions that agree on the variables of a term give it one value
pub substituted-agree : (g h : ℕ → Term) (t : Term) → ((k : ℕ) → occurs k t ≡ true → g k ≡ h k) → substituted g t ≡ substituted h t
substituted-agree g h = ind (λ t. ((k : ℕ) → occurs k t ≡ true → g k ≡ h k) → substituted g t ≡ substituted h t)
    (λ n same. substituted-Var g n ∙ same n (occurs-Var n n ∙ equal_itself n) ∙ sym (substituted-Var h n))
    (λ f ts e same. substituted-App g f ts ∙ ap (App f) (among_agree g h ts e (λ k o. same k (occurs-App k f ts ∙ o))) ∙ sym (substituted-App h f ts))
