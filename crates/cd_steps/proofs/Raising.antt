-- Literals of a second premise, whose variables are moved up.
use Rattle.std.proofs.Common.{◌≡◌, ℕ, ◌+◌, Bool, List, [], ◌∷◌, map, Option, Some, None, slice_get, option_map, option_and_then, ap, ◌∙◌, sym, refl, arith}
use Rattle.std.proofs.lemmas.Option.{slice_get-map, same_Some}
use Rattle.cd_term.specs.declared.Term.{Term}
use Rattle.cd_term.specs.declared.Term.TheVariants.{Var}
use Rattle.cd_term.specs.Terms.{subterm, replaced, argument}
use Rattle.cd_term.proofs.Equations.{substituted-Var, substituted-App}
use Rattle.cd_term.proofs.Paths.{argument-Var, argument-App}
use Rattle.cd_term.proofs.Substitutions.{substituted-identity, substituted-same}
use Rattle.cd_term.proofs.TermInduction.{ind}
use Rattle.cd_term.proofs.Replaced.{replaced-somewhere}
use Rattle.cd_clause.specs.declared.Atom.{Atom}
use Rattle.cd_clause.specs.declared.Atom.TheVariants.{Truth, Pred, Equal}
use Rattle.cd_clause.specs.declared.Literal.{Literal}
use Rattle.cd_clause.specs.declared.Clause.{Clause}
use Rattle.cd_clause.specs.Clauses.{terms_of, atom_changed, literal_changed, variable_bound_of}
use Rattle.cd_clause.specs.Places.{signed, subterm_at, with_term, replaced_at}
use Rattle.cd_clause.proofs.PlaceLemmas.{term_changed}
use Rattle.cd_steps.specs.Rules.{higher, apart}
use Rattle.cd_steps.specs.Drafts.{raised}

-- ---- by nothing

pub raised_none : (t : Term) → raised 0 t ≡ t
raised_none t = substituted-same (higher 0) Var (λ k. ap Var (omega arith)) t ∙ substituted-identity t

pub all_raised_none : (ts : List Term) → map (raised 0) ts ≡ ts
all_raised_none [] = refl
all_raised_none (t ∷ ts) = let here = raised_none t in let rest = all_raised_none ts in cc

-- ---- a literal that was moved up

pub raised_atom : (n : ℕ) (o : Option Literal) (sign : Bool) (b : Atom) → option_map (literal_changed (raised n)) o ≡ Some (signed sign b) →
    (a : Atom) × (o ≡ Some (signed sign a)) × (b ≡ atom_changed (raised n) a)
raised_atom n None sign b e = absurd cc
raised_atom n (Some l) sign b e =
    let same : literal_changed (raised n) l ≡ signed sign b = same_Some (literal_changed (raised n) l) (signed sign b) e in
    (l.atom, ap (λ (x : Bool). Some (signed x l.atom)) (ap (λ (k : Literal). k.positive) same), sym (ap (λ (k : Literal). k.atom) same))

pub raised_arguments : (n : ℕ) (a : Atom) (p : ℕ) (ts : List Term) → Pred p ts ≡ atom_changed (raised n) a →
    (us : List Term) × (a ≡ Pred p us) × (ts ≡ map (raised n) us)
raised_arguments n Truth p ts e = absurd cc
raised_arguments n (Pred q us) p ts e = (us, let h : q ≡ p = cc in ap (λ (m : ℕ). Pred m us) h, cc)
raised_arguments n (Equal s t) p ts e = absurd cc

pub apart_get : (a b : Clause) (j : ℕ) → slice_get (apart a b).literals j ≡ option_map (literal_changed (raised (variable_bound_of a))) (slice_get b.literals j)
apart_get a b j = slice_get-map (literal_changed (raised (variable_bound_of a))) b.literals j

-- ---- its subterms

argument_raised : (n i : ℕ) (t : Term) → argument i (raised n t) ≡ option_map (raised n) (argument i t)
argument_raised n i = ind (λ t. argument i (raised n t) ≡ option_map (raised n) (argument i t))
    (λ k. ap (argument i) (substituted-Var (higher n) k) ∙ argument-Var i (n + k) ∙ sym (ap (option_map (raised n)) (argument-Var i k)))
    (λ f ts e. ap (argument i) (substituted-App (higher n) f ts) ∙ argument-App i f (map (raised n) ts) ∙ slice_get-map (raised n) ts i
    ∙ sym (ap (option_map (raised n)) (argument-App i f ts)))

next_raised : (n : ℕ) (path : List ℕ) (o : Option Term) → ((t : Term) → subterm path (raised n t) ≡ option_map (raised n) (subterm path t)) →
    option_and_then (subterm path) (option_map (raised n) o) ≡ option_map (raised n) (option_and_then (subterm path) o)
next_raised n path None rest = refl
next_raised n path (Some t) rest = rest t

pub subterm_raised : (n : ℕ) (path : List ℕ) (t : Term) → subterm path (raised n t) ≡ option_map (raised n) (subterm path t)
subterm_raised n [] t = refl
subterm_raised n (i ∷ path) t = ap (option_and_then (subterm path)) (argument_raised n i t) ∙ next_raised n path (argument i t) (subterm_raised n path)

pub place_raised : (n : ℕ) (path : List ℕ) (a : Atom) → subterm_at path (atom_changed (raised n) a) ≡ option_map (raised n) (subterm_at path a)
place_raised n [] a = refl
place_raised n (k ∷ path) a =
    ap (option_and_then (subterm path)) (term_changed (raised n) a k) ∙ next_raised n path (slice_get (terms_of a) k) (subterm_raised n path)

pub was_there : (n : ℕ) (o : Option Term) (u : Term) → option_map (raised n) o ≡ Some u → (t : Term) × (o ≡ Some t) × (u ≡ raised n t)
was_there n None u e = absurd cc
was_there n (Some t) u e = (t, refl, sym (same_Some (raised n t) u e))

-- where there is a subterm, it can be replaced
replaced_at_place : (k : ℕ) (new : Term) (a : Atom) (path : List ℕ) (t : Term) (o : Option Term) → replaced path new t ≡ o → (o ≡ None → ⊥) →
    (b : Atom) × (option_map (λ v. with_term k v a) o ≡ Some b)
replaced_at_place k new a path t None is there = absurd (there refl)
replaced_at_place k new a path t (Some v) is there = (with_term k v a, refl)

replaced_of : (k : ℕ) (new : Term) (a : Atom) (path : List ℕ) (o : Option Term) (u : Term) → option_and_then (subterm path) o ≡ Some u →
    (b : Atom) × (option_map (λ v. with_term k v a) (option_and_then (replaced path new) o) ≡ Some b)
replaced_of k new a path None u e = absurd cc
replaced_of k new a path (Some t) u e =
    replaced_at_place k new a path t (replaced path new t) refl (λ none. let out = replaced-somewhere path new t none in absurd cc)

pub can_replace : (path : List ℕ) (new u : Term) (a : Atom) → subterm_at path a ≡ Some u → (b : Atom) × (replaced_at path new a ≡ Some b)
can_replace [] new u a e = absurd cc
can_replace (k ∷ path) new u a e = replaced_of k new a path (slice_get (terms_of a) k) u e
