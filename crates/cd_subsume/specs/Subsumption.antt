-- Subsumption: an instance of each literal of a clause is a literal of another, each a different one.
-- Beyond the headline: no clause of `prove` reaches IsSubsumption.
use Rattle.std.specs.Prelude.{ℕ, ◌≡◌, ◌≢◌, ◌<◌, Bool, true, false, List, length, Option, Some, slice_get, MatchOption}
use Rattle.cd_term.specs.declared.Term.{Term}
use Rattle.cd_term.specs.Terms.{substituted, value_of}
use Rattle.cd_clause.specs.declared.Atom.{Atom}
use Rattle.cd_clause.specs.declared.Atom.TheVariants.{Truth, Pred, Equal}
use Rattle.cd_clause.specs.declared.Literal.{Literal}
use Rattle.cd_clause.specs.declared.Clause.{Clause}
use Rattle.cd_clause.specs.Clauses.{atom_changed, variable_bound_of}
use Rattle.cd_subsume.specs.declared.picks.Pick.{Pick}

-- an atom is another one as it stands, or an equation is another one with its sides exchanged
abbrev pub IsTurned : Bool → Atom → Atom → Type 0
IsTurned false a b = a ≡ b
IsTurned true Truth b = ⊥
IsTurned true (Pred p args) b = ⊥
IsTurned true (Equal s t) b = Equal t s ≡ b

-- the literal in a picked place is an instance of another one
pub record IsPicked (g : ℕ → Term) (l : Literal) (ms : List Literal) (p : Pick) : Type 0 where
  pub literal : Literal
  pub place : slice_get ms p.place ≡ Some literal
  pub sign : l.positive ≡ literal.positive
  pub atom : IsTurned p.is_exchanged (atom_changed (substituted g) l.atom) literal.atom

-- one pick for each literal, and no two of one place
pub record ArePicked (g : ℕ → Term) (ls ms : List Literal) (picks : List Pick) : Type 0 where
  pub as_many : length picks ≡ length ls
  pub each : (i : ℕ) (l : Literal) (p : Pick) → slice_get ls i ≡ Some l → slice_get picks i ≡ Some p → IsPicked g l ms p
  pub distinct : (i j : ℕ) (p q : Pick) → i < j → slice_get picks i ≡ Some p → slice_get picks j ≡ Some q → p.place ≢ q.place

-- d subsumes c by a substitution
abbrev pub SubsumesBy : (ℕ → Term) → Clause → Clause → Type 0
SubsumesBy g d c = (picks : List Pick) × ArePicked g d.literals c.literals picks

abbrev pub Subsumes : Clause → Clause → Type 0
Subsumes d c = (g : ℕ → Term) × SubsumesBy g d c

-- what a test for subsumption answers: a substitution with a term for each variable of d, or that there is none
abbrev pub IsSubsumption : Clause → Clause → Option (List Term) → Type 0
IsSubsumption d c answer =
    MatchOption answer (¬ Subsumes d c) (λ s. (length s ≡ variable_bound_of d) × SubsumesBy (value_of s) d c)
