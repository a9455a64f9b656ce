-- Variables of terms, clauses that are one equation, and what is known of its sides.
use Rattle.std.proofs.Common.{◌≡◌, ℕ, ◌+◌, ◌<◌, ◌≤◌, Bool, true, false, IsTrue, ◌↔◌, ◌||◌, inl, inr, List, [], ◌∷◌, ◌++◌, length, map, take, get_or, ap, subst, refl, sym, ◌∙◌, arith}
use Rattle.std.specs.List.{list_any}
use Rattle.std.proofs.lemmas.Bool.{or_cases, eqb-true}
use Rattle.std.proofs.lemmas.List.{take_more, take_all}
use Rattle.std.proofs.lemmas.List.Folds.{list_any_at}
use Rattle.cd_list.proofs.Numbers.{equal_itself}
use Rattle.cd_term.specs.declared.Term.{Term}
use Rattle.cd_term.specs.declared.Term.TheVariants.{Var, App}
use Rattle.cd_term.specs.Terms.{bound_of, occurs, substituted}
use Rattle.cd_term.proofs.Equations.{occurs-Var, occurs-App}
use Rattle.cd_clause.specs.declared.Atom.TheVariants.{Equal}
use Rattle.cd_clause.specs.declared.Literal.{Literal}
use Rattle.cd_clause.specs.declared.Clause.{Clause}
use Rattle.cd_clause.specs.Clauses.{variable_bound_of}
use Rattle.cd_clause.specs.Places.{signed}
use Rattle.cd_kbo.specs.declared.order.Order.{Order}
use Rattle.cd_kbo.specs.Kbo.{Greater}
use Rattle.cd_kbo.proofs.Stable.{greater_stable, never_both}
use Rattle.cd_rewrite.specs.Reduction.{HasVariablesOf}
use Rattle.cd_rewrite.specs.Equations.{equation_clause, Falls}

among_map : (k : ℕ) (ts : List Term) → list_any (λ b. b) (map (occurs k) ts) ≡ list_any (occurs k) ts
among_map k [] = refl
among_map k (t ∷ ts) = rw (among_map k ts)

pub occurs_arguments : (k : ℕ) (t : Term) (f : ℕ) (ts : List Term) → t ≡ App f ts → occurs k t ≡ list_any (occurs k) ts
occurs_arguments k t f ts is = ap (occurs k) is ∙ occurs-App k f ts ∙ among_map k ts

-- the variables of a variable, and of several terms
pub variables_of_one : (from to : Term) (n : ℕ) (r : Bool) → to ≡ Var n → r ≡ occurs n from → (IsTrue r ↔ HasVariablesOf from to)
variables_of_one from to n r is test = (
  λ yes_ k o. let same : n ≡ k = eqb-true n k (sym (ap (occurs k) is ∙ occurs-Var k n) ∙ o) in
      ap (λ m. occurs m from) (sym same) ∙ sym test ∙ yes_,
  λ all. test ∙ all n (ap (occurs n) is ∙ occurs-Var n n ∙ equal_itself n),
)

abbrev pub HasAllOf : Term → List Term → Type 0
HasAllOf from ts = (k : ℕ) → list_any (occurs k) ts ≡ true → occurs k from ≡ true

pub all_start : (from : Term) (ts : List Term) → HasAllOf from (take 0 ts)
all_start from ts k o = absurd (cc)

any_last : (k : ℕ) (xs : List Term) (t : Term) → list_any (occurs k) (xs ++ t ∷ []) ≡ (list_any (occurs k) xs || occurs k t)
any_last k [] t = one (occurs k t)
  where
    one : (b : Bool) → (b || false) ≡ (false || b)
    one true = refl
    one false = refl
any_last k (x ∷ xs) t = more (occurs k x) (list_any (occurs k) (xs ++ t ∷ [])) (list_any (occurs k) xs) (occurs k t) (any_last k xs t)
  where
    more : (a b c d : Bool) → b ≡ (c || d) → (a || b) ≡ ((a || c) || d)
    more true b c d e = refl
    more false b c d e = e

pub all_next : (from : Term) (ts : List Term) (i : ℕ) (t : Term) → i < length ts → t ≡ get_or ts i t → HasAllOf from (take i ts) → HasVariablesOf from t →
    HasAllOf from (take (i + 1) ts)
all_next from ts i t lt at before here k o =
    elim (or_cases (list_any (occurs k) (take i ts)) (occurs k t)
    (sym (ap (list_any (occurs k)) (take_more ts i t lt ∙ ap (λ u. take i ts ++ u ∷ []) (sym at)) ∙ any_last k (take i ts) t) ∙ o)) [
      | inl old ↦ before k old
      | inr new ↦ here k new
    ]

pub all_end : (from to : Term) (f : ℕ) (ts xs : List Term) (i : ℕ) → to ≡ App f ts → xs ≡ ts → length xs ≤ i → HasAllOf from (take i xs) → HasVariablesOf from to
all_end from to f ts xs i is same le all k o =
    all k (ap (list_any (occurs k)) (take_all i xs le ∙ same) ∙ sym (occurs_arguments k to f ts is) ∙ o)

pub any_at : (k : ℕ) (ts : List Term) (i : ℕ) (t : Term) → i < length ts → t ≡ get_or ts i t → occurs k t ≡ true → list_any (occurs k) ts ≡ true
any_at k ts i t lt at o = list_any_at (occurs k) ts i t lt (ap (occurs k) (sym at) ∙ o)

pub all_fails : (from to : Term) (f : ℕ) (ts xs : List Term) (i : ℕ) (t : Term) (r : Bool) → to ≡ App f ts → xs ≡ ts → i < length xs → t ≡ get_or xs i t →
    (IsTrue r ↔ HasVariablesOf from t) → r ≡ false → HasVariablesOf from to → ⊥
all_fails from to f ts xs i t r is same lt at test out all =
    let was : r ≡ true = test.1 (λ k o. all k (occurs_arguments k to f ts is ∙ ap (list_any (occurs k)) (sym same) ∙ any_at k xs i t lt at o)) in
    let both : true ≡ false = sym was ∙ out in absurd (cc)

-- a side that is smaller than the other one lowers no term
pub never_falls : (o : Order) (from to : Term) → Greater o to from → (t : Term) (g : ℕ → Term) → Falls o from to g t → ⊥
never_falls o from to up t g falls =
    never_both o t (substituted g to) falls.2 (subst (Greater o (substituted g to)) falls.1 (greater_stable o g to from up))

-- a clause of one literal
one_literal : (ls : List Literal) (l : Literal) → length ls ≡ 1 → l ≡ get_or ls 0 l → ls ≡ l ∷ []
one_literal [] l e at = absurd (omega (arith, e))
one_literal (m ∷ []) l e at = ap (λ k. k ∷ []) (sym at)
one_literal (m ∷ k ∷ ls) l e at = absurd (omega (arith, e))

pub is_equation : (e : Clause) (xs : List Literal) (l : Literal) (s t : Term) → xs ≡ e.literals → length xs ≡ 1 → l ≡ get_or xs 0 l → l.positive ≡ true →
    l.atom ≡ Equal s t → e.literals ≡ signed true (Equal s t) ∷ []
is_equation e xs l s t same one at sign atom =
    let lit : l ≡ signed true (Equal s t) = (λ i. record { positive = sign i; atom = atom i }) in
    sym same ∙ one_literal xs l one at ∙ ap (λ m. m ∷ []) lit

pub not_one : (e : Clause) (xs : List Literal) → xs ≡ e.literals → (length xs ≡ 1 → ⊥) → (s t : Term) → e.literals ≡ signed true (Equal s t) ∷ [] → ⊥
not_one e xs same out s t is = out (ap length (same ∙ is))

literal_is : (e : Clause) (xs : List Literal) (l : Literal) (s t : Term) → xs ≡ e.literals → l ≡ get_or xs 0 l → e.literals ≡ signed true (Equal s t) ∷ [] →
    l ≡ signed true (Equal s t)
literal_is e xs l s t same at is = at ∙ ap (λ ys. get_or ys 0 l) (same ∙ is)

pub not_positive : (e : Clause) (xs : List Literal) (l : Literal) → xs ≡ e.literals → l ≡ get_or xs 0 l → l.positive ≡ false → (s t : Term) →
    e.literals ≡ signed true (Equal s t) ∷ [] → ⊥
not_positive e xs l same at sign s t is =
    let both : true ≡ false = sym (ap (λ (m : Literal). m.positive) (literal_is e xs l s t same at is)) ∙ sign in absurd (cc)

pub not_equal : (e : Clause) (xs : List Literal) (l : Literal) → xs ≡ e.literals → l ≡ get_or xs 0 l → ((s t : Term) → l.atom ≡ Equal s t → ⊥) → (s t : Term) →
    e.literals ≡ signed true (Equal s t) ∷ [] → ⊥
not_equal e xs l same at none s t is = none s t (ap (λ (m : Literal). m.atom) (literal_is e xs l s t same at is))

pub clause_is : (e : Clause) (left right s t : Term) → e.literals ≡ signed true (Equal s t) ∷ [] → left ≡ s → right ≡ t → equation_clause left right ≡ e
clause_is e left right s t is same alike =
    let whole : signed true (Equal left right) ∷ [] ≡ e.literals = ap (λ x. signed true (Equal x right) ∷ []) same ∙ ap (λ x. signed true (Equal s x) ∷ []) alike ∙ sym is in
    λ i. record { literals = whole i }

-- the variables of the sides are below the bound of the clause
pub equation_bounds : (e : Clause) (s t : Term) (n : ℕ) → e.literals ≡ signed true (Equal s t) ∷ [] → n ≡ variable_bound_of e → (bound_of s ≤ n) × (bound_of t ≤ n)
equation_bounds e s t n is count =
    let bound : n ≡ variable_bound_of (equation_clause s t) = count ∙ ap (λ ls. variable_bound_of (record { literals = ls })) is in (omega arith, omega arith)
