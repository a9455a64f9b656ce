-- Literals bound to others.
-- Beyond the headline: no clause of `prove` reaches this file.
use Rattle.std.specs.Prelude.{ℕ, ◌≡◌, Bool}
use Rattle.cd_term.specs.declared.Term.{Term}
use Rattle.cd_term.specs.Terms.{substituted}
use Rattle.cd_clause.specs.declared.Atom.{Atom}
use Rattle.cd_clause.specs.declared.Literal.{Literal}
use Rattle.cd_clause.specs.Clauses.{atom_changed}
use Rattle.cd_subsume.specs.Subsumption.{IsTurned}

-- a substitution makes two terms equal to two others
abbrev pub PairBinds : Term → Term → Term → Term → (ℕ → Term) → Type 0
PairBinds s t u v g = (substituted g s ≡ u) × (substituted g t ≡ v)

-- a substitution makes an atom equal to another one, as it stands or with sides exchanged
abbrev pub AtomBinds : Bool → Atom → Atom → (ℕ → Term) → Type 0
AtomBinds is_exchanged a b g = IsTurned is_exchanged (atom_changed (substituted g) a) b

-- the same of literals
abbrev pub LiteralBinds : Bool → Literal → Literal → (ℕ → Term) → Type 0
LiteralBinds is_exchanged l m g = (l.positive ≡ m.positive) × AtomBinds is_exchanged l.atom m.atom g
