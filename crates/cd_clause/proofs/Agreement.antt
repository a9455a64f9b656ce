-- The truth of literals depends on the values of their variables alone.
use Rattle.std.proofs.Common.{◌≡◌, ℕ, ◌<◌, max, Bool, true, false, not, ◌||◌, if◌then◌else◌, nat_eq, List, [], ◌∷◌, ◌++◌, map, slice_get, slice_index, ap, ap₂, ◌∙◌, sym, refl, arith}
use Rattle.std.specs.List.{list_any}
use Rattle.std.proofs.lemmas.List.{map-append}
use Rattle.cd_term.specs.declared.Term.{Term}
use Rattle.cd_term.specs.Terms.{greatest, bound_of}
use Rattle.cd_term.proofs.TermInduction.{ind, Each}
use Rattle.cd_term.proofs.Equations.{bound_of-Var, bound_of-App}
use Rattle.cd_term.proofs.Measures.{greatest-append}
use Rattle.cd_clause.specs.declared.Atom.{Atom}
use Rattle.cd_clause.specs.declared.Atom.TheVariants.{Truth, Pred, Equal}
use Rattle.cd_clause.specs.declared.Literal.{Literal}
use Rattle.cd_clause.specs.Clauses.{terms_of, clause_terms}
use Rattle.cd_clause.specs.Truth.{Interp, Point, place, value, function_values, predicate_values, atom_true, literal_true}
use Rattle.cd_clause.proofs.SoundnessLemmas.{value-Var, value-App}

-- two points have the same elements for the first n variables
unfoldable pub Agree : ℕ → Point → Point → Type 0
Agree n p q = (k : ℕ) → k < n → p k ≡ q k

same_values : (i : Interp) (p q : Point) (ts : List Term) → Each (λ t. Agree (bound_of t) p q → value i p t ≡ value i q t) ts → Agree (greatest (map bound_of ts)) p q → map (value i p) ts ≡ map (value i q) ts
unfolding Agree
same_values i p q [] each agree = refl
same_values i p q (t ∷ ts) each agree =
    ap₂ (λ (v : ℕ) (vs : List ℕ). v ∷ vs) (each.0 (λ k lt. agree k (omega (arith, lt)))) (same_values i p q ts each.1 (λ k lt. agree k (omega (arith, lt))))

pub same_value : (i : Interp) (p q : Point) (t : Term) → Agree (bound_of t) p q → value i p t ≡ value i q t
unfolding Agree
same_value i p q = ind (λ t. Agree (bound_of t) p q → value i p t ≡ value i q t)
    (λ k agree. value-Var i p k ∙ agree k (omega (arith, bound_of-Var k)) ∙ sym (value-Var i q k))
    (λ f ts each agree. value-App i p f ts
    ∙ ap (λ vs. slice_index (function_values (slice_get i.tables f)) (place i.size vs)) (same_values i p q ts each (λ k lt. agree k (omega (arith, bound_of-App f ts, lt))))
    ∙ sym (value-App i q f ts))

all_values : (i : Interp) (p q : Point) (ts : List Term) → Agree (greatest (map bound_of ts)) p q → map (value i p) ts ≡ map (value i q) ts
unfolding Agree
all_values i p q [] agree = refl
all_values i p q (t ∷ ts) agree =
    ap₂ (λ (v : ℕ) (vs : List ℕ). v ∷ vs) (same_value i p q t (λ k lt. agree k (omega (arith, lt)))) (all_values i p q ts (λ k lt. agree k (omega (arith, lt))))

same_atom : (i : Interp) (p q : Point) (a : Atom) → Agree (greatest (map bound_of (terms_of a))) p q → atom_true i p a ≡ atom_true i q a
unfolding Agree
same_atom i p q Truth agree = refl
same_atom i p q (Pred s args) agree = ap (λ vs. nat_eq (slice_index (predicate_values (slice_get i.tables s)) (place i.size vs)) 1) (all_values i p q args agree)
same_atom i p q (Equal t u) agree =
    ap₂ nat_eq (same_value i p q t (λ k lt. agree k (omega (arith, lt)))) (same_value i p q u (λ k lt. agree k (omega (arith, lt))))

same_literal : (i : Interp) (p q : Point) (b : Bool) (x y : Bool) → x ≡ y → (if b then x else not x) ≡ (if b then y else not y)
same_literal i p q true x y e = e
same_literal i p q false x y e = ap not e

pub same_truth : (i : Interp) (p q : Point) (ls : List Literal) → Agree (greatest (map bound_of (clause_terms ls))) p q → list_any (literal_true i p) ls ≡ list_any (literal_true i q) ls
unfolding Agree
same_truth i p q [] agree = refl
same_truth i p q (l ∷ ls) agree =
    let split : greatest (map bound_of (terms_of l.atom ++ clause_terms ls)) ≡ max (greatest (map bound_of (terms_of l.atom))) (greatest (map bound_of (clause_terms ls))) =
    ap greatest (map-append bound_of (terms_of l.atom) (clause_terms ls)) ∙ greatest-append (map bound_of (terms_of l.atom)) (map bound_of (clause_terms ls)) in
    ap₂ (λ (x y : Bool). x || y)
    (same_literal i p q l.positive (atom_true i p l.atom) (atom_true i q l.atom) (same_atom i p q l.atom (λ k lt. agree k (omega (arith, split, lt)))))
    (same_truth i p q ls (λ k lt. agree k (omega (arith, split, lt))))
