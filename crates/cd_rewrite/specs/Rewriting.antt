-- A clause with a subterm replaced.
-- Beyond the headline: no clause of `prove` reaches this file.
use Rattle.std.specs.Prelude.{ℕ, ◌≡◌, List, None, Some, slice_get, slice_set}
use Rattle.cd_term.specs.declared.Term.{Term}
use Rattle.cd_clause.specs.declared.Atom.{Atom}
use Rattle.cd_clause.specs.declared.Literal.{Literal}
use Rattle.cd_clause.specs.Places.{signed, subterm_at, replaced_at}

-- the literals but for the subterm at a path of the one in place j, which gave way to another term
pub record AreRewritten (ls : List Literal) (j : ℕ) (path : List ℕ) (new : Term) (rs : List Literal) : Type 0 where
  pub taker : Literal
  pub changed : Atom
  pub literal : slice_get ls j ≡ Some taker
  pub becomes : replaced_at path new taker.atom ≡ Some changed
  pub rest : rs ≡ slice_set ls j (signed taker.positive changed)

-- there is no such subterm
abbrev pub HasNoPlace : List Literal → ℕ → List ℕ → Type 0
HasNoPlace ls j path = (taker : Literal) → slice_get ls j ≡ Some taker → subterm_at path taker.atom ≡ None
