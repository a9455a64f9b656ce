-- Replacements in atoms.
use Rattle.std.proofs.Common.{◌≡◌, ℕ, zero, suc, ◌+◌, ◌-◌, ◌<◌, List, [], ◌∷◌, map, length, Option, None, Some, slice_get, slice_set, option_and_then, option_map, ap, ap₂, ◌∙◌, sym, subst, refl}
use Rattle.std.proofs.lemmas.List.{map-set}
use Rattle.std.proofs.lemmas.Option.{slice_get-map, same_Some}
use Rattle.cd_term.specs.declared.Term.{Term}
use Rattle.cd_term.specs.declared.Term.TheVariants.{App}
use Rattle.cd_term.specs.Terms.{size_of, depth_of, applied, value_of, subterm, replaced, IsMeasureOf}
use Rattle.cd_term.specs.Instances.{replaced_under, MeasuresAround}
use Rattle.cd_term.proofs.PathLaws.{replaced-substituted}
use Rattle.cd_term.proofs.Around.{inner_out, set_around}
use Rattle.cd_term.proofs.Replacing.{Meets, meets, under-in, under-is, under-nowhere, under-somewhere}
use Rattle.cd_clause.specs.declared.Atom.{Atom}
use Rattle.cd_clause.specs.declared.Atom.TheVariants.{Truth, Pred, Equal}
use Rattle.cd_clause.specs.Clauses.{terms_of, atom_changed}
use Rattle.cd_clause.specs.Places.{subterm_at, with_term, replaced_at, replaced_at_under, IsAtomMeasureOf}
use Rattle.cd_clause.proofs.LimitLemmas.{pred_outside, pred_measured}

-- ---- one level

module _ (r s : List Term) (path : List ℕ) (k : ℕ) (rest : List ℕ) (new : Term) (a : Atom) (p : path ≡ k ∷ rest) where
  at_place : replaced_at_under r s path new a ≡ option_map (λ u. with_term k u (atom_changed (applied r) a)) (option_and_then (replaced_under r s rest new) (slice_get (terms_of a) k))
  at_place = ap (λ q. replaced_at_under r s q new a) p

  pub at-Pred-out : (f : ℕ) (xs : List Term) → a ≡ Pred f xs → slice_get xs k ≡ None → replaced_at_under r s path new a ≡ None
  at-Pred-out f xs is out = rw (p, is, out)

  pub at-Pred : (f : ℕ) (xs : List Term) (x : Term) → a ≡ Pred f xs → slice_get xs k ≡ Some x →
      replaced_at_under r s path new a ≡ option_map (λ v. Pred f (slice_set (map (applied r) xs) k v)) (replaced_under r s rest new x)
  at-Pred f xs x is here = rw (p, is, here)

-- ---- what it is: a replacement in the instance, where the path stays in the atom

pub terms_changed : (h : Term → Term) (a : Atom) → terms_of (atom_changed h a) ≡ map h (terms_of a)
terms_changed h Truth = refl
terms_changed h (Pred p args) = refl
terms_changed h (Equal s t) = refl

pub term_changed : (h : Term → Term) (a : Atom) (k : ℕ) → slice_get (terms_of (atom_changed h a)) k ≡ option_map h (slice_get (terms_of a) k)
term_changed h a k = ap (λ ts. slice_get ts k) (terms_changed h a) ∙ slice_get-map h (terms_of a) k

pub record StandsIn (k : ℕ) (path : List ℕ) (a : Atom) (u : Term) : Type 0 where
  pub term : Term
  pub here : slice_get (terms_of a) k ≡ Some term
  pub rest : subterm path term ≡ Some u

stands_of : (k : ℕ) (path : List ℕ) (a : Atom) (u : Term) (o : Option Term) → slice_get (terms_of a) k ≡ o → option_and_then (subterm path) o ≡ Some u → StandsIn k path a u
stands_of k path a u None here e = absurd cc
stands_of k path a u (Some t) here e = record { term = t; here = here; rest = e }

pub stands_in : (k : ℕ) (path : List ℕ) (a : Atom) (u : Term) → subterm_at (k ∷ path) a ≡ Some u → StandsIn k path a u
stands_in k path a u e = stands_of k path a u (slice_get (terms_of a) k) refl e

-- a replacement in an atom is one in a term of the atom
pub record ReplacesIn (k : ℕ) (path : List ℕ) (new : Term) (a b : Atom) : Type 0 where
  pub term : Term
  pub changed : Term
  pub here : slice_get (terms_of a) k ≡ Some term
  pub rest : replaced path new term ≡ Some changed
  pub result : b ≡ with_term k changed a

replaces_at : (k : ℕ) (path : List ℕ) (new t : Term) (a b : Atom) (o : Option Term) → slice_get (terms_of a) k ≡ Some t → replaced path new t ≡ o →
    option_map (λ u. with_term k u a) o ≡ Some b → ReplacesIn k path new a b
replaces_at k path new t a b None here is e = absurd cc
replaces_at k path new t a b (Some u) here is e =
    record { term = t; changed = u; here = here; rest = is; result = sym (same_Some (with_term k u a) b e) }

replaces_of : (k : ℕ) (path : List ℕ) (new : Term) (a b : Atom) (o : Option Term) → slice_get (terms_of a) k ≡ o →
    option_map (λ u. with_term k u a) (option_and_then (replaced path new) o) ≡ Some b → ReplacesIn k path new a b
replaces_of k path new a b None here e = absurd cc
replaces_of k path new a b (Some t) here e = replaces_at k path new t a b (replaced path new t) here refl e

pub replaces_in : (k : ℕ) (path : List ℕ) (new : Term) (a b : Atom) → replaced_at (k ∷ path) new a ≡ Some b → ReplacesIn k path new a b
replaces_in k path new a b e = replaces_of k path new a b (slice_get (terms_of a) k) refl e

pub at-is : (r s : List Term) (path : List ℕ) (new : Term) (a : Atom) (u : Term) → subterm_at path a ≡ Some u →
    replaced_at_under r s path new a ≡ replaced_at path (applied s new) (atom_changed (applied r) a)
at-is r s [] new a u e = absurd cc
at-is r s (k ∷ path) new a u e =
    let t = stands_in k path a u e in
    ap (option_map (λ v. with_term k v (atom_changed (applied r) a)))
    (ap (option_and_then (replaced_under r s path new)) t.here ∙ under-is r s path new t.term u t.rest
    ∙ sym (ap (option_and_then (replaced path (applied s new))) (term_changed (applied r) a k ∙ ap (option_map (applied r)) t.here)))

-- and nothing exactly where the path leads out of it
nowhere_of : (r s : List Term) (k : ℕ) (path : List ℕ) (new : Term) (b : Atom) (o : Option Term) → option_and_then (subterm path) o ≡ None →
    option_map (λ v. with_term k v b) (option_and_then (replaced_under r s path new) o) ≡ None
nowhere_of r s k path new b None out = refl
nowhere_of r s k path new b (Some t) out = ap (option_map (λ v. with_term k v b)) (under-nowhere r s path new t out)

pub at-nowhere : (r s : List Term) (path : List ℕ) (new : Term) (a : Atom) → subterm_at path a ≡ None → replaced_at_under r s path new a ≡ None
at-nowhere r s [] new a out = refl
at-nowhere r s (k ∷ path) new a out = nowhere_of r s k path new (atom_changed (applied r) a) (slice_get (terms_of a) k) out

map_none : {A B : Type 0} (h : A → B) (o : Option A) → option_map h o ≡ None → o ≡ None
map_none h None out = refl
map_none h (Some x) out = absurd cc

somewhere_of : (r s : List Term) (k : ℕ) (path : List ℕ) (new : Term) (b : Atom) (o : Option Term) → option_map (λ v. with_term k v b) (option_and_then (replaced_under r s path new) o) ≡ None →
    option_and_then (subterm path) o ≡ None
somewhere_of r s k path new b None out = refl
somewhere_of r s k path new b (Some t) out = under-somewhere r s path new t (map_none (λ v. with_term k v b) (replaced_under r s path new t) out)

pub at-somewhere : (r s : List Term) (path : List ℕ) (new : Term) (a : Atom) → replaced_at_under r s path new a ≡ None → subterm_at path a ≡ None
at-somewhere r s [] new a out = refl
at-somewhere r s (k ∷ path) new a out = somewhere_of r s k path new (atom_changed (applied r) a) (slice_get (terms_of a) k) out

-- ---- a replacement follows a substitution

with_applied : (s : List Term) (k : ℕ) (u : Term) (a : Atom) → with_term k (applied s u) (atom_changed (applied s) a) ≡ atom_changed (applied s) (with_term k u a)
with_applied s k u Truth = refl
with_applied s k u (Pred p args) = ap (Pred p) (sym (map-set (applied s) args k u))
with_applied s zero u (Equal x y) = refl
with_applied s (suc k) u (Equal x y) = refl

pub replaced_applied : (s : List Term) (path : List ℕ) (new : Term) (a b : Atom) → replaced_at path new a ≡ Some b →
    replaced_at path (applied s new) (atom_changed (applied s) a) ≡ Some (atom_changed (applied s) b)
replaced_applied s [] new a b e = absurd cc
replaced_applied s (k ∷ path) new a b e =
    let r = replaces_in k path new a b e in
    ap (λ (o : Option Term). option_map (λ u. with_term k u (atom_changed (applied s) a)) (option_and_then (replaced path (applied s new)) o))
    (term_changed (applied s) a k ∙ ap (option_map (applied s)) r.here)
    ∙ ap (option_map (λ u. with_term k u (atom_changed (applied s) a))) (replaced-substituted (value_of s) path new r.term r.changed r.rest)
    ∙ ap Some (with_applied s k r.changed a ∙ ap (atom_changed (applied s)) (sym r.result))

-- ---- predicates compared

pred_parts : (p q : ℕ) (ts us : List Term) → Pred p ts ≡ Pred q us → (p ≡ q) × (ts ≡ us)
pred_parts p q ts us e = (cc, cc)

as_symbol : (r : List Term) (k p q : ℕ) (xs ys : List Term) (o : Option Term) → option_map (λ v. Pred p (slice_set (map (applied r) xs) k v)) o ≡ Some (Pred q ys) →
    option_map (λ v. App p (slice_set (map (applied r) xs) k v)) o ≡ Some (App q ys)
as_symbol r k p q xs ys None e = absurd cc
as_symbol r k p q xs ys (Some v) e =
    let both = pred_parts p q (slice_set (map (applied r) xs) k v) ys (same_Some (Pred p (slice_set (map (applied r) xs) k v)) (Pred q ys) e) in
    ap Some (ap₂ App both.0 both.1)

pred_meets_of : (r s : List Term) (k : ℕ) (rest path : List ℕ) (new : Term) (a b : Atom) (p q : ℕ) (xs ys : List Term) (o : Option Term) → slice_get xs k ≡ o → path ≡ k ∷ rest → a ≡ Pred p xs → b ≡ Pred q ys →
    replaced_at_under r s path new a ≡ Some b → Meets r s k rest new p q xs ys
pred_meets_of r s k rest path new a b p q xs ys None here at is are e = let none = at-Pred-out r s path k rest new a at p xs is here in absurd cc
pred_meets_of r s k rest path new a b p q xs ys (Some x) here at is are e =
    meets r s k rest (k ∷ rest) new (App p xs) (App q ys) p q xs ys xs ys refl refl refl refl refl
    (under-in r s (k ∷ rest) k rest new (App p xs) p xs x refl refl here
    ∙ as_symbol r k p q xs ys (replaced_under r s rest new x) (sym (at-Pred r s path k rest new a at p xs x is here) ∙ e ∙ ap Some are))

pub pred_meets : (r s : List Term) (k : ℕ) (rest path : List ℕ) (new : Term) (a b : Atom) (p q : ℕ) (xs ys ts us : List Term) → path ≡ k ∷ rest → a ≡ Pred p xs → b ≡ Pred q ys → ts ≡ xs → us ≡ ys →
    replaced_at_under r s path new a ≡ Some b → Meets r s k rest new p q ts us
pred_meets r s k rest path new a b p q xs ys ts us at is are same too e =
    pred_meets_of r s k rest path new a b p q ts us (slice_get ts k) refl at (is ∙ ap (Pred p) (sym same)) (are ∙ ap (Pred q) (sym too)) e

from_symbol : (r : List Term) (k p q : ℕ) (xs ys : List Term) (v : Term) → p ≡ q → ys ≡ slice_set (map (applied r) xs) k v → Pred p (slice_set (map (applied r) xs) k v) ≡ Pred q ys
from_symbol r k p q xs ys v same are = ap₂ Pred same (sym are)

pub pred_joins : (r s : List Term) (k : ℕ) (rest path : List ℕ) (new : Term) (a b : Atom) (p q : ℕ) (xs ys ts us : List Term) (x y : Term) → path ≡ k ∷ rest → a ≡ Pred p xs → b ≡ Pred q ys → ts ≡ xs → us ≡ ys →
    p ≡ q → us ≡ slice_set (map (applied r) ts) k y → slice_get ts k ≡ Some x → replaced_under r s rest new x ≡ Some y → replaced_at_under r s path new a ≡ Some b
pred_joins r s k rest path new a b p q xs ys ts us x y at is are same too symbol beside here inside =
    at-Pred r s path k rest new a at p ts x (is ∙ ap (Pred p) (sym same)) here
    ∙ ap (option_map (λ v. Pred p (slice_set (map (applied r) ts) k v))) inside
    ∙ ap Some (from_symbol r k p q ts us y symbol beside ∙ ap (Pred q) too ∙ sym are)

-- ---- measures

pub measured_as : (symbols levels : ℕ) (o p : Option Atom) (answer : Option ℕ) → o ≡ p → IsAtomMeasureOf symbols levels p answer → IsAtomMeasureOf symbols levels o answer
measured_as symbols levels o p answer is m = subst (λ q. IsAtomMeasureOf symbols levels q answer) (sym is) m

module _ (symbols levels p : ℕ) (ts : List Term) (k : ℕ) where
  pub pred_argument_outside : k < length ts → (o : Option Term) → IsMeasureOf (symbols - 1) (levels - 1) o None → IsAtomMeasureOf symbols levels (option_map (λ v. Pred p (slice_set ts k v)) o) None
  pred_argument_outside lt None m = refl
  pred_argument_outside lt (Some w) m = pred_outside symbols levels p (slice_set ts k w) (λ within.
      inner_out size_of depth_of (symbols - 1) (levels - 1) _ _ (slice_set ts k w) w (set_around ts k w lt) m within)

  pub pred_arguments_outside : (inner : ℕ) (o : Option Term) → IsMeasureOf (symbols - 1) (levels - 1) o (Some inner) → MeasuresAround (symbols - 1) (levels - 1) ts k inner None →
      IsAtomMeasureOf symbols levels (option_map (λ v. Pred p (slice_set ts k v)) o) None
  pred_arguments_outside inner None m around = refl
  pred_arguments_outside inner (Some w) m around = pred_outside symbols levels p (slice_set ts k w) (around w m)

  pub pred_arguments_inside : (inner all : ℕ) (o : Option Term) → 0 < symbols → 0 < levels → IsMeasureOf (symbols - 1) (levels - 1) o (Some inner) → MeasuresAround (symbols - 1) (levels - 1) ts k inner (Some all) →
      IsAtomMeasureOf symbols levels (option_map (λ v. Pred p (slice_set ts k v)) o) (Some (1 + all))
  pred_arguments_inside inner all None some room m around = absurd (cc)
  pred_arguments_inside inner all (Some w) some room m around = pred_measured symbols levels p all (slice_set ts k w) some room (around w m)
