-- What is kept beside a held clause, and what a clause is sought by.
-- Beyond the headline: no clause of `prove` reaches this file.
use Rattle.std.specs.Prelude.{ℕ, ◌≡◌, true, false, sum_by, List, map, Option, Some, None}
use Rattle.std.specs.List.{AllByRecursion}
use Rattle.cd_term.specs.declared.Term.{Term}
use Rattle.cd_term.specs.Terms.{greatest}
use Rattle.cd_clause.specs.declared.Clause.{Clause}
use Rattle.cd_clause.specs.Clauses.{clause_terms, variable_bound_of, IsWithinBounds}
use Rattle.cd_kbo.specs.declared.order.Order.{Order}
use Rattle.cd_rewrite.specs.Reduction.{HasVariablesOf, Spot, ReducesAt}
use Rattle.cd_contract.specs.declared.tally.Tally.{Tally}
use Rattle.cd_contract.specs.declared.rows.Row.{Row}
use Rattle.cd_contract.specs.declared.held.Entry.{Entry}
use Rattle.cd_contract.specs.declared.held.Kept.{Kept}
use Rattle.cd_contract.specs.Tallies.{count_in, signed_count, IsTally, IsAtMost}

-- there is a side, and its counts are at most others
abbrev pub IsSideAtMost : Option Tally → Tally → Type 0
IsSideAtMost None most = ⊥
IsSideAtMost (Some side) most = IsAtMost side most

-- the counts of a clause's terms, the greatest ones
abbrev pub IsMost : Clause → Tally → Type 0
IsMost c most = IsTally (λ class. greatest (map (count_in class) (clause_terms c.literals))) most

-- a side that has the variables of the other one, by its counts
abbrev pub IsSideOf : Term → Term → Option Tally → Type 0
IsSideOf from to None = HasVariablesOf from to → ⊥
IsSideOf from to (Some side) = IsTally (λ class. count_in class from) side

-- where a clause reduces another one from a side, that side has no greater counts than the terms there
abbrev pub IsReducingSide : Clause → ℕ → Option Tally → Type 0
IsReducingSide d s side = (o : Order) (c : Clause) (most : Tally) (at : Spot) → at.side ≡ s → ReducesAt o d c at → IsMost c most → IsSideAtMost side most

pub record AreSides (d : Clause) (first second : Option Tally) : Type 0 where
  pub left : IsReducingSide d 0 first
  pub right : IsReducingSide d 1 second

-- the counts of a clause: of its variables, of its literals by signs, of its terms, and of the sides that may reduce terms
pub record IsRow (d : Clause) (row : Row) : Type 0 where
  pub variables : row.variables ≡ variable_bound_of d
  pub positive : IsTally (λ class. sum_by (signed_count true class) d.literals) row.positive
  pub negative : IsTally (λ class. sum_by (signed_count false class) d.literals) row.negative
  pub terms : IsMost d row.terms
  pub sides : AreSides d row.left row.right

-- a held clause is within bounds, and its counts are beside it
pub record IsKept (k : Kept) : Type 0 where
  pub within : IsWithinBounds k.entry.clause
  pub row : IsRow k.entry.clause k.row

abbrev pub AreKept : List Kept → Type 0
AreKept ks = AllByRecursion IsKept ks

abbrev pub entries_of : List Kept → List Entry
entries_of ks = map (λ k. k.entry) ks
