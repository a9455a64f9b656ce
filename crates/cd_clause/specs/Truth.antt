-- Finite interpretations, and the truth of clauses in them.
use Rattle.std.specs.Prelude.{◌≡◌, ℕ, ◌+◌, ◌*◌, ◌<◌, ◌^◌, nat_eq, Bool, true, not, if◌then◌else◌, List, Option, Some, None, [], ◌∷◌, map, length, slice_get, slice_index, All, IsTrue}
use Rattle.std.specs.List.{list_any, AllByRecursion}
use Rattle.cd_term.specs.declared.Term.{Term, fold-Term}
use Rattle.cd_term.specs.declared.Term.TheOpen.{Term-F}
use Rattle.cd_term.specs.declared.Term.TheOpen as layer
use Rattle.cd_clause.specs.declared.Atom.{Atom}
use Rattle.cd_clause.specs.declared.Atom.TheVariants.{Truth, Pred, Equal}
use Rattle.cd_clause.specs.declared.Literal.{Literal}
use Rattle.cd_clause.specs.declared.Clause.{Clause}

-- what an interpretation says of a symbol: one value for each list of as many elements as the arity, in the
-- order of the lists, whose first element counts most. A function's value is an element, a predicate's is 1
-- where it is true and else 0
pub record Table : Type 0 where
  pub is_function : Bool
  pub arity : ℕ
  pub values : List ℕ

-- a finite interpretation: its elements are the numbers below its size, and symbol k has table k
pub record Interp : Type 0 where
  pub size : ℕ
  pub tables : List Table

-- a table is full, and its values are in range
pub record IsTable (size : ℕ) (t : Table) : Type 0 where
  pub full : length t.values ≡ size ^ t.arity
  pub in_range : All (λ v. v < (if t.is_function then size else 2)) t.values

pub record IsInterp (interp : Interp) : Type 0 where
  pub inhabited : 0 < interp.size
  pub tables : AllByRecursion (IsTable interp.size) interp.tables

-- a function's values; a symbol that is none has no values, and then 0 stands for each of them
abbrev pub function_values : Option Table → List ℕ
function_values (Some t) = if t.is_function then t.values else []
function_values None = []

-- a predicate's values; a symbol that is none has no values, and is nowhere true
abbrev pub predicate_values : Option Table → List ℕ
predicate_values (Some t) = if t.is_function then [] else t.values
predicate_values None = []

-- the place of a list of elements in a table
abbrev pub place : ℕ → List ℕ → ℕ
place size [] = 0
place size (v ∷ vs) = v * size ^ length vs + place size vs

-- a point assigns an element to each variable
abbrev pub Point : Type 0
Point = ℕ → ℕ

-- the value of a term at a point
abbrev pub value_step : Interp → Point → Term-F ℕ → ℕ
value_step interp point (layer.Var n) = point n
value_step interp point (layer.App f values) =
    slice_index (function_values (slice_get interp.tables f)) (place interp.size values)

abbrev pub value : Interp → Point → Term → ℕ
value interp point = fold-Term ℕ (value_step interp point)

-- equality is identity
abbrev pub atom_true : Interp → Point → Atom → Bool
atom_true interp point Truth = true
atom_true interp point (Pred p args) =
    nat_eq (slice_index (predicate_values (slice_get interp.tables p)) (place interp.size (map (value interp point) args))) 1
atom_true interp point (Equal s t) = nat_eq (value interp point s) (value interp point t)

abbrev pub literal_true : Interp → Point → Literal → Bool
literal_true interp point l = if l.positive then atom_true interp point l.atom else not (atom_true interp point l.atom)

-- a point of an interpretation
abbrev pub IsPoint : Interp → Point → Type 0
IsPoint interp point = (k : ℕ) → point k < interp.size

-- at every point some literal is true
pub record Holds (interp : Interp) (c : Clause) : Type 0 where
  pub at_each : (point : Point) → IsPoint interp point → IsTrue (list_any (literal_true interp point) c.literals)

-- every clause of the list holds
abbrev pub Models : Interp → List Clause → Type 0
Models interp cs = AllByRecursion (Holds interp) cs

-- no interpretation makes every clause of the list hold
abbrev pub HaveNoModel : List Clause → Type 0
HaveNoModel cs = (interp : Interp) → IsInterp interp → Models interp cs → ⊥
