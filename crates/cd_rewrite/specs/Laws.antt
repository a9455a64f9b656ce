-- The laws of rewriting that other crates build on. Each is the contract of a function of the module `laws`.
-- Beyond the headline: no clause of `prove` reaches this file.
use Rattle.std.specs.Prelude.{◌≡◌, ◌≤◌, ◌⊎◌, List, map, Some, slice_get, slice_set}
use Rattle.cd_term.specs.declared.Term.{Term}
use Rattle.cd_term.specs.Terms.{greatest, bound_of, applied, AreWithin}
use Rattle.cd_term.specs.Symbols.{Symbols, AreOver}
use Rattle.cd_clause.specs.declared.Atom.{Atom}
use Rattle.cd_clause.specs.declared.Literal.{Literal}
use Rattle.cd_clause.specs.declared.Clause.{Clause}
use Rattle.cd_clause.specs.Clauses.{IsTidied, IsWithinBounds}
use Rattle.cd_clause.specs.Over.{LiteralsOver}
use Rattle.cd_clause.specs.Places.{signed, subterm_at, replaced_at}
use Rattle.cd_clause.specs.Truth.{Interp, IsInterp, Holds}
use Rattle.cd_kbo.specs.declared.order.Order.{Order}
use Rattle.cd_rewrite.specs.Reduction.{IsRule, Spot, Reduces, IsReduct}

-- with the equation, a clause implies its reduct, and the reduct implies the clause
abbrev pub ReductsImply : Type 0
ReductsImply = (interp : Interp) (o : Order) (e c d : Clause) (at : Spot) (s : List Term) → IsInterp interp → IsReduct o e c at s d →
    Holds interp e → (Holds interp c → Holds interp d) × (Holds interp d → Holds interp c)

-- there is at most one place of a reduct and at most one reduct, whatever the substitution
abbrev pub ReductsAgree : Type 0
ReductsAgree = (o : Order) (e c d r : Clause) (x y : Spot) (s u : List Term) → IsReduct o e c x s d → IsReduct o e c y u r → (x ≡ y) × (d ≡ r)

-- and by a tidy equation at most one substitution
abbrev pub TidySubstitutionsAgree : Type 0
TidySubstitutionsAgree = (o : Order) (e c d r : Clause) (x y : Spot) (s u : List Term) → IsTidied e e → IsReduct o e c x s d → IsReduct o e c y u r → s ≡ u

-- there is a reduct, or the equation reduces the clause nowhere
abbrev pub SomeReduct : Order → Clause → Clause → Type 0
SomeReduct o e c = (at : Spot) × (s : List Term) × (d : Clause) × IsReduct o e c at s d

abbrev pub ReductsDecide : Type 0
ReductsDecide = (o : Order) (e c : Clause) → SomeReduct o e c ⊎ (Reduces o e c → ⊥)

-- a reduct is what a rewriting step makes of the clause: a subterm that is an instance of one side of the equation
-- gives way to the same instance of the other side
pub record IsRewritten (e c : Clause) (at : Spot) (s : List Term) (d : Clause) : Type 0 where
  pub from : Term
  pub to : Term
  pub rule : IsRule e at.side from to
  pub taker : Literal
  pub changed : Atom
  pub literal : slice_get c.literals at.literal ≡ Some taker
  pub there : subterm_at at.path taker.atom ≡ Some (applied s from)
  pub becomes : replaced_at at.path (applied s to) taker.atom ≡ Some changed
  pub rest : d.literals ≡ slice_set c.literals at.literal (signed taker.positive changed)

abbrev pub ReductsAreSteps : Type 0
ReductsAreSteps = (o : Order) (e c d : Clause) (at : Spot) (s : List Term) → IsReduct o e c at s d → IsRewritten e c at s d

-- a clause is tidy, within bounds, and over some symbols
pub record IsFit (y : Symbols) (c : Clause) : Type 0 where
  pub tidy : IsTidied c c
  pub within : IsWithinBounds c
  pub over : LiteralsOver y c.literals

-- terms together are within bounds, with few variables, and over some symbols
pub record AreFit (y : Symbols) (s : List Term) : Type 0 where
  pub within : AreWithin 65535 1000 s
  pub few : greatest (map bound_of s) ≤ 65536
  pub over : AreOver y s

-- where equation and clause are fit, so is the substitution, and the reduct is over the same symbols
abbrev pub ReductsAreFit : Type 0
ReductsAreFit = (o : Order) (y : Symbols) (e c d : Clause) (at : Spot) (s : List Term) → IsFit y e → IsFit y c → IsReduct o e c at s d →
    AreFit y s × LiteralsOver y d.literals
