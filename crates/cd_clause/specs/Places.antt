-- Sides of equations, and subterms of atoms at paths.
-- Beyond the headline: no clause of `prove` reaches HasNoSides, replaced_at_under, IsAtomMeasureOf, MeasuresSides.
use Rattle.std.specs.Prelude.{◌≡◌, ℕ, zero, suc, Bool, List, [], ◌∷◌, Option, Some, None, slice_get, slice_set, option_and_then, option_map}
use Rattle.cd_term.specs.declared.Term.{Term}
use Rattle.cd_term.specs.Terms.{applied, subterm, replaced}
use Rattle.cd_term.specs.Instances.{replaced_under}
use Rattle.cd_clause.specs.declared.Atom.{Atom}
use Rattle.cd_clause.specs.declared.Atom.TheVariants.{Truth, Pred, Equal}
use Rattle.cd_clause.specs.declared.Literal.{Literal}
use Rattle.cd_clause.specs.Clauses.{terms_of, atom_changed, IsAtomMeasure}

-- an atom, or its negation
abbrev pub signed : Bool → Atom → Literal
signed sign a = record { positive = sign; atom = a }

-- an equation has this side and the other one: side 0 is the left one, side 1 the right one
abbrev pub HasSides : ℕ → Atom → Term → Term → Type 0
HasSides zero a side other = a ≡ Equal side other
HasSides (suc zero) a side other = a ≡ Equal other side
HasSides (suc (suc n)) a side other = ⊥

pub record HasNoSides (s : ℕ) (a : Atom) : Type 0 where
  pub none : (side other : Term) → HasSides s a side other → ⊥

-- the subterm at a path: it begins with the place of an argument or of a side, and so is never empty
abbrev pub subterm_at : List ℕ → Atom → Option Term
subterm_at [] a = None
subterm_at (k ∷ path) a = option_and_then (subterm path) (slice_get (terms_of a) k)

-- the atom with another argument, or another side, in place k
abbrev pub with_term : ℕ → Term → Atom → Atom
with_term k u Truth = Truth
with_term k u (Pred p args) = Pred p (slice_set args k u)
with_term zero u (Equal s t) = Equal u t
with_term (suc k) u (Equal s t) = Equal s u

-- the atom with another subterm at a path, or nothing where the path leads out of the atom
abbrev pub replaced_at : List ℕ → Term → Atom → Option Atom
replaced_at [] new a = None
replaced_at (k ∷ path) new a = option_map (λ u. with_term k u a) (option_and_then (replaced path new) (slice_get (terms_of a) k))

-- the atom with substitution r applied, but for the subterm at a path, which gives way to another term with
-- substitution s applied
abbrev pub replaced_at_under : List Term → List Term → List ℕ → Term → Atom → Option Atom
replaced_at_under r s [] new a = None
replaced_at_under r s (k ∷ path) new a =
    option_map (λ u. with_term k u (atom_changed (applied r) a)) (option_and_then (replaced_under r s path new) (slice_get (terms_of a) k))

-- what a measure answers of an atom that there may be; nothing where there is none
abbrev pub IsAtomMeasureOf : ℕ → ℕ → Option Atom → Option ℕ → Type 0
IsAtomMeasureOf symbols levels None answer = answer ≡ None
IsAtomMeasureOf symbols levels (Some a) answer = IsAtomMeasure symbols levels a answer

-- what a measure answers of an equation of a side that there may be and another one, in whatever order
abbrev pub MeasuresSides : ℕ → ℕ → Option Term → Term → Option ℕ → Type 0
MeasuresSides symbols levels None other answer = answer ≡ None
MeasuresSides symbols levels (Some side) other answer = IsAtomMeasure symbols levels (Equal side other) answer
