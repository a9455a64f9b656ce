-- What the test of a tidy form compares.
-- Beyond the headline: no clause of `prove` reaches this file.
use Rattle.std.specs.Prelude.{ℕ, ◌≡◌, ◌≤◌, ◌↔◌, Bool, IsTrue, List, [], take, slice_get, Option, Some, option_map}
use Rattle.std.specs.List.{flat_map}
use Rattle.cd_term.specs.Terms.{variables_of, renamed_by, marked, first_from}
use Rattle.cd_clause.specs.declared.Literal.{Literal}
use Rattle.cd_clause.specs.Clauses.{clause_terms, literals_changed, IsSuperfluous, AreKept}

-- the literal in a place is superfluous
abbrev pub IsLeftOut : List Literal → ℕ → Type 0
IsLeftOut ls i = (l : Literal) × (slice_get ls i ≡ Some l) × IsSuperfluous (take i ls) l

-- no literal from a place on is superfluous
abbrev pub IsClearFrom : ℕ → List Literal → Type 0
IsClearFrom clear ls = (i : ℕ) → clear ≤ i → ¬ IsLeftOut ls i

-- marks tell of the first literals whether they are superfluous
abbrev pub AreMarks : List Bool → List Literal → Type 0
AreMarks marks ls = (i : ℕ) (b : Bool) → slice_get marks i ≡ Some b → (IsTrue b ↔ IsLeftOut ls i)

-- what is left of a list of literals has the shapes of another list, and variable k stands there exactly
-- where variable n stands in the other
abbrev pub AreMarkedAlike : ℕ → ℕ → List Literal → List Literal → List Literal → Type 0
AreMarkedAlike k n earlier ls ms =
    (kept : List Literal) × AreKept earlier ls kept × (literals_changed (marked k) kept ≡ literals_changed (marked n) ms)

-- the variables of literals
abbrev pub variables_in : List Literal → List ℕ
variables_in ms = flat_map variables_of (clause_terms ms)

-- what a search beside what is left of a list of literals answers, where that is another list renamed by a
-- function: the image of the first variable of the other list that isn't below n
abbrev pub IsBeside : ℕ → List Literal → List Literal → Option ℕ → Type 0
IsBeside n ls ms r = (q : ℕ → ℕ) (kept : List Literal) → AreKept [] ls kept → kept ≡ literals_changed (renamed_by q) ms →
    r ≡ option_map q (first_from n (variables_in ms))
