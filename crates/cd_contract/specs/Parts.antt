-- What a clause is sought by: its counts, its marks, and its subterms with marks of each.
-- Beyond the headline: no clause of `prove` reaches this file.
use Rattle.std.specs.Prelude.{ℕ, ◌≡◌, ◌≢◌, ◌≤◌, ◌<◌, List, length, Some, slice_get}
use Rattle.cd_term.specs.declared.Term.{Term}
use Rattle.cd_term.specs.declared.Term.TheVariants.{Var}
use Rattle.cd_term.specs.Terms.{size_of}
use Rattle.cd_clause.specs.declared.Clause.{Clause}
use Rattle.cd_kbo.specs.declared.order.Order.{Order}
use Rattle.cd_rewrite.specs.Equations.{Falls}
use Rattle.cd_rewrite.specs.Walks.{NoLiteralBefore}
use Rattle.cd_contract.specs.declared.parts.Part.{Part}
use Rattle.cd_contract.specs.declared.parts.Sought.{Sought}
use Rattle.cd_contract.specs.Shapes.{shape}
use Rattle.cd_contract.specs.Marks.{Marked, BrieflyMarked, Meets, IsSought}
use Rattle.cd_contract.specs.Rows.{IsRow}

-- a term stands among parts, with marks of all that it is an instance of
pub record HasPart (ps : List Part) (t : Term) : Type 0 where
  pub place : ℕ
  pub part : Part
  pub there : slice_get ps place ≡ Some part
  pub is : part.term.now ≡ t
  pub meets : Meets (BrieflyMarked part.marks) t

-- a term isn't a variable, and doesn't stand among parts
abbrev pub Lacks : List Part → Term → Type 0
Lacks ps t = ((n : ℕ) → t ≢ Var n) × (HasPart ps t → ⊥)

-- each part has at most 65,535 symbols
abbrev pub AreSmall : List Part → Type 0
AreSmall ps = (i : ℕ) (p : Part) → slice_get ps i ≡ Some p → size_of p.term.now ≤ 65535

-- parts are added
pub record Adds (old new : List Part) : Type 0 where
  pub kept : (t : Term) → HasPart old t → HasPart new t
  pub small : AreSmall old → AreSmall new

-- every subterm that isn't a variable is a part
pub record IsSoughtBy (c : Clause) (s : Sought) : Type 0 where
  pub row : IsRow c s.row
  pub marks : IsSought c.literals (Marked s.marks)
  pub parts : NoLiteralBefore (Lacks s.parts.items) c.literals (length c.literals)
  pub small : AreSmall s.parts.items

-- a side of this shape, if it has one, lowers none of the parts before a place
abbrev pub MissesBefore : Order → Term → Term → ℕ → List Part → ℕ → Type 0
MissesBefore o from to k ps n = (i : ℕ) (p : Part) → i < n → slice_get ps i ≡ Some p → Meets (BrieflyMarked p.marks) p.term.now → k ≡ shape 3 from →
    (g : ℕ → Term) → Falls o from to g p.term.now → ⊥

abbrev pub Misses : Order → Term → Term → ℕ → List Part → Type 0
Misses o from to k ps = MissesBefore o from to k ps (length ps)
