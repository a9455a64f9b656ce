-- Truth of instances, of tautologies and of tidied clauses.
use Rattle.std.proofs.Common.{◌≡◌, ℕ, zero, suc, ◌<◌, Bool, true, false, inl, inr, List, [], ◌∷◌, length, map, All, Option, Some, None, slice_get, slice_index, ap, subst, refl, sym, ◌∙◌, arith, if◌then◌else◌}
use Rattle.std.specs.List.{list_any, AllByRecursion}
use Rattle.std.proofs.lemmas.List.{get_or_past}
use Rattle.std.proofs.lemmas.Bool.{cases_lt}
use Rattle.cd_term.specs.declared.Term.{Term}
use Rattle.cd_term.specs.declared.Term.TheVariants.{Var, App}
use Rattle.cd_term.specs.Terms.{substituted}
use Rattle.cd_term.proofs.TermInduction.{ind, Each}
use Rattle.cd_term.proofs.Equations.{fold-Var, fold-App, substituted-Var, substituted-App}
use Rattle.cd_clause.specs.declared.Atom.{Atom}
use Rattle.cd_clause.specs.declared.Atom.TheVariants.{Truth, Pred, Equal}
use Rattle.cd_clause.specs.declared.Literal.{Literal}
use Rattle.cd_clause.specs.declared.Clause.{Clause}
use Rattle.cd_clause.specs.Clauses.{atom_changed, literal_changed, instance}
use Rattle.cd_clause.specs.Truth.{Table, Interp, IsTable, IsInterp, Point, IsPoint, place, function_values, value_step, value, atom_true, literal_true, Holds}

pub value-Var : (i : Interp) (point : Point) (k : ℕ) → value i point (Var k) ≡ point k
value-Var i point = fold-Var ℕ (value_step i point)

pub value-App : (i : Interp) (point : Point) (f : ℕ) (ts : List Term) →
    value i point (App f ts) ≡ slice_index (function_values (slice_get i.tables f)) (place i.size (map (value i point) ts))
value-App i point = fold-App ℕ (value_step i point)

-- the point that a substitution makes of a point
abbrev pub moved : Interp → (ℕ → Term) → Point → Point
moved i g point k = value i point (g k)

values_substituted : (i : Interp) (g : ℕ → Term) (point : Point) (ts : List Term) →
    Each (λ t. value i point (substituted g t) ≡ value i (moved i g point) t) ts →
    map (value i point) (map (substituted g) ts) ≡ map (value i (moved i g point)) ts
values_substituted i g point [] e = refl
values_substituted i g point (t ∷ ts) e = let rest = values_substituted i g point ts e.1 in let here = e.0 in cc

pub value-substituted : (i : Interp) (g : ℕ → Term) (point : Point) (t : Term) →
    value i point (substituted g t) ≡ value i (moved i g point) t
value-substituted i g point = ind (λ t. value i point (substituted g t) ≡ value i (moved i g point) t)
    (λ k. ap (value i point) (substituted-Var g k) ∙ sym (value-Var i (moved i g point) k))
    (λ f ts e. ap (value i point) (substituted-App g f ts) ∙ value-App i point f (map (substituted g) ts)
    ∙ ap (λ vs. slice_index (function_values (slice_get i.tables f)) (place i.size vs)) (values_substituted i g point ts e)
    ∙ sym (value-App i (moved i g point) f ts))

pub values-substituted : (i : Interp) (g : ℕ → Term) (point : Point) (ts : List Term) →
    map (value i point) (map (substituted g) ts) ≡ map (value i (moved i g point)) ts
values-substituted i g point [] = refl
values-substituted i g point (t ∷ ts) =
    let rest = values-substituted i g point ts in let here = value-substituted i g point t in cc

atom-substituted : (i : Interp) (g : ℕ → Term) (point : Point) (a : Atom) →
    atom_true i point (atom_changed (substituted g) a) ≡ atom_true i (moved i g point) a
atom-substituted i g point Truth = refl
atom-substituted i g point (Pred p args) = rw (values-substituted i g point args)
atom-substituted i g point (Equal t u) = rw (value-substituted i g point t, value-substituted i g point u)

pub any-substituted : (i : Interp) (g : ℕ → Term) (point : Point) (ls : List Literal) →
    list_any (literal_true i point) (map (literal_changed (substituted g)) ls) ≡ list_any (literal_true i (moved i g point)) ls
any-substituted i g point [] = refl
any-substituted i g point (l ∷ ls) = rw (atom-substituted i g point l.atom, any-substituted i g point ls)

-- the table of a symbol
table_at : (size : ℕ) (tables : List Table) (f : ℕ) (t : Table) → AllByRecursion (IsTable size) tables → slice_get tables f ≡ Some t → IsTable size t
table_at size [] f t all e = absurd (cc)
table_at size (x ∷ tables) zero t all e = let same : x ≡ t = cc in subst (IsTable size) same all.0
table_at size (x ∷ tables) (suc f) t all e = table_at size tables f t all.1 e

-- a function's values are elements
below_at : (size : ℕ) (b : Bool) (values : List ℕ) (k : ℕ) → 0 < size → All (λ v. v < (if b then size else 2)) values →
    slice_index (if b then values else []) k < size
below_at size true values k some all = elim (cases_lt k (length values)) [
  | inl lt ↦ all k 0 lt
  | inr le ↦ omega (arith, get_or_past values k 0 le)
]
below_at size false values k some all = omega (arith, get_or_past {X = ℕ} [] k 0)

function_below : (i : Interp) → IsInterp i → (o : Option Table) (f k : ℕ) → slice_get i.tables f ≡ o → slice_index (function_values o) k < i.size
function_below i ok None f k e = omega (arith, ok.inhabited, get_or_past {X = ℕ} [] k 0)
function_below i ok (Some t) f k e = below_at i.size t.is_function t.values k ok.inhabited (table_at i.size i.tables f t ok.tables e).in_range

pub value_below : (i : Interp) (point : Point) → IsInterp i → IsPoint i point → (t : Term) → value i point t < i.size
value_below i point ok p = ind (λ t. value i point t < i.size)
    (λ k. rw (value-Var i point k) (p k))
    (λ f ts e. rw (value-App i point f ts) (function_below i ok (slice_get i.tables f) f (place i.size (map (value i point) ts)) refl))

-- an instance of a clause that holds
pub instance_holds : (i : Interp) (g : ℕ → Term) (c : Clause) → IsInterp i → Holds i c → Holds i (instance g c)
instance_holds i g c ok h = record {
  at_each = λ point p. rw (any-substituted i g point c.literals) (h.at_each (moved i g point) (λ k. value_below i point ok p (g k)));
}
