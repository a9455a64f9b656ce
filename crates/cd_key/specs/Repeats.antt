-- Occurrences of variables in clauses.
use Rattle.std.specs.Prelude.{ℕ, zero, suc, ◌+◌, ◌-◌, Bool, nat_lt, List, length, map, sum_by, if◌then◌else◌}
use Rattle.std.specs.List.{flat_map}
use Rattle.cd_term.specs.declared.Term.{Term}
use Rattle.cd_term.specs.Terms.{variables_of, bound_of, greatest}
use Rattle.cd_clause.specs.declared.Literal.{Literal}
use Rattle.cd_kbo.specs.Kbo.{occurrences}
use Rattle.cd_key.specs.Literals.{sides}

-- the sides of the literals, from left to right
abbrev pub clause_sides : List Literal → List Term
clause_sides ls = flat_map (λ l. sides l.atom) ls

-- the number of occurrences of variables in a term
abbrev pub variable_count : Term → ℕ
variable_count t = length (variables_of t)

-- how often a variable occurs
abbrev pub occurrences_in : ℕ → List Literal → ℕ
occurrences_in k ls = sum_by (occurrences k) (clause_sides ls)

-- how many numbers below n pass a test
abbrev pub count_below : (ℕ → Bool) → ℕ → ℕ
count_below p zero = 0
count_below p (suc n) = count_below p n + (if p n then 1 else 0)

-- the number of different variables: of the numbers up to the greatest variable, those that occur
abbrev pub distinct_of : List Literal → ℕ
distinct_of ls = count_below (λ k. nat_lt 0 (occurrences_in k ls)) (greatest (map bound_of (clause_sides ls)))

-- the number of occurrences of variables minus the number of different variables
abbrev pub repeats_of : List Literal → ℕ
repeats_of ls = sum_by variable_count (clause_sides ls) - distinct_of ls
