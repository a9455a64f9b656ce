-- Rewriting by an equation alone, where a term gets smaller.
-- Demodulation; Baader and Nipkow, Term Rewriting and All That, 4.2.
use Rattle.std.specs.Prelude.{ℕ, ◌≡◌, ◌≢◌, true, List, [], ◌∷◌, length, Some, IsTrue, slice_get, slice_set}
use Rattle.std.specs.Ordering.{nat_cmp, ordering_then}
use Rattle.std.specs.Cmp.Lexicographic.{slice_cmp}
use Rattle.std.specs.declared.cmp.Ordering.{Ordering}
use Rattle.std.specs.declared.cmp.Ordering.TheVariants.{Less}
use Rattle.cd_term.specs.declared.Term.{Term}
use Rattle.cd_term.specs.declared.Term.TheVariants.{Var}
use Rattle.cd_term.specs.Terms.{substituted, value_of, occurs}
use Rattle.cd_clause.specs.declared.Atom.{Atom}
use Rattle.cd_clause.specs.declared.Literal.{Literal}
use Rattle.cd_clause.specs.declared.Clause.{Clause}
use Rattle.cd_clause.specs.Clauses.{variable_bound_of}
use Rattle.cd_clause.specs.Places.{signed, HasSides, subterm_at, replaced_at}
use Rattle.cd_kbo.specs.declared.order.Order.{Order}
use Rattle.cd_kbo.specs.Kbo.{Greater}

-- a clause is one positive equation, which has this side and the other one
pub record IsRule (e : Clause) (side : ℕ) (from to : Term) : Type 0 where
  pub equation : Atom
  pub one : e.literals ≡ signed true equation ∷ []
  pub sides : HasSides side equation from to

-- every variable of a term occurs in another one
abbrev pub HasVariablesOf : Term → Term → Type 0
HasVariablesOf from to = (k : ℕ) → IsTrue (occurs k to) → IsTrue (occurs k from)

-- an instance of a side of an equation is a term, which isn't a variable and is greater than the instance of the
-- other side; and the other side has no variable of its own
pub record Lowers (o : Order) (e : Clause) (side : ℕ) (g : ℕ → Term) (old new : Term) : Type 0 where
  pub from : Term
  pub to : Term
  pub rule : IsRule e side from to
  pub covered : HasVariablesOf from to
  pub matched : substituted g from ≡ old
  pub result : substituted g to ≡ new
  pub compound : (n : ℕ) → old ≢ Var n
  pub falls : Greater o old new

-- a place: a literal, a path in it, and a side of the equation
pub record Spot : Type 0 where
  pub literal : ℕ
  pub path : List ℕ
  pub side : ℕ

-- by literals, then by paths, a proper prefix first, then by sides
abbrev pub spot_compare : Spot → Spot → Ordering
spot_compare a b = ordering_then (nat_cmp a.literal b.literal)
    (ordering_then (slice_cmp nat_cmp a.path b.path) (nat_cmp a.side b.side))

-- e reduces c at a place by a substitution
pub record ReducesBy (o : Order) (e c : Clause) (at : Spot) (g : ℕ → Term) : Type 0 where
  pub taker : Literal
  pub old : Term
  pub new : Term
  pub literal : slice_get c.literals at.literal ≡ Some taker
  pub there : subterm_at at.path taker.atom ≡ Some old
  pub lowers : Lowers o e at.side g old new

abbrev pub ReducesAt : Order → Clause → Clause → Spot → Type 0
ReducesAt o e c at = (g : ℕ → Term) × ReducesBy o e c at g

abbrev pub Reduces : Order → Clause → Clause → Type 0
Reduces o e c = (at : Spot) × ReducesAt o e c at

-- the first place
pub record IsFirst (o : Order) (e c : Clause) (at : Spot) : Type 0 where
  pub here : ReducesAt o e c at
  pub least : (other : Spot) → ReducesAt o e c other → spot_compare other at ≢ Less

-- what a reduction at the first place by a substitution makes of the clause
pub record IsReduct (o : Order) (e c : Clause) (at : Spot) (s : List Term) (d : Clause) : Type 0 where
  pub first : IsFirst o e c at
  pub covers : length s ≡ variable_bound_of e
  pub by : ReducesBy o e c at (value_of s)
  pub changed : Atom
  pub becomes : replaced_at at.path by.new by.taker.atom ≡ Some changed
  pub rest : d.literals ≡ slice_set c.literals at.literal (signed by.taker.positive changed)
