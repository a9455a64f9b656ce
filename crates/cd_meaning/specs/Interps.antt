-- Interpretations and points as the code has them.
-- Beyond the headline: no clause of `prove` reaches this file.
use Rattle.std.specs.Prelude.{ℕ, ◌+◌, ◌*◌, Bool, true, false, List, [], ◌∷◌, map, slice_index, IsTrue}
use Rattle.std.specs.List.{list_any}
use Rattle.cd_symbols.specs.declared.Kind.{Kind}
use Rattle.cd_symbols.specs.declared.Kind.TheVariants.{Function, Predicate}
use Rattle.cd_clause.specs.declared.Literal.{Literal}
use Rattle.cd_clause.specs.Truth.{Interp, Point, literal_true}
use Rattle.cd_clause.specs.Truth as truth
use Rattle.cd_meaning.specs.declared.Table.{Table}

abbrev pub is_function : Kind → Bool
is_function Function = true
is_function Predicate = false

abbrev pub table_of : Table → truth.Table
table_of t = record { is_function = is_function t.kind; arity = t.arity; values = t.values }

abbrev pub interp_of : ℕ → List Table → Interp
interp_of size tables = record { size = size; tables = map table_of tables }

-- the point that a list of elements gives: a variable past the list has the value 0
abbrev pub point_of : List ℕ → Point
point_of vs k = slice_index vs k

-- some literal is true at a point
abbrev pub IsTrueAt : Interp → List Literal → Point → Type 0
IsTrueAt interp ls point = IsTrue (list_any (literal_true interp point) ls)

-- the place of a point in the order in which points are tried: its first element counts least
abbrev pub rank : ℕ → List ℕ → ℕ
rank size [] = 0
rank size (v ∷ vs) = v + size * rank size vs
