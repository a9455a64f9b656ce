-- Terms have no more variables than symbols, and those that are numbered in the order of first occurrence are below that count.
use Rattle.std.proofs.Common.{◌≡◌, ℕ, ◌+◌, ◌≤◌, max, List, [], ◌∷◌, length, map, sum_by, ap, arith, length-append}
use Rattle.std.specs.List.{flat_map}
use Rattle.std.proofs.lemmas.List.Sums.{sum_by-cons}
use Rattle.cd_term.specs.declared.Term.{Term}
use Rattle.cd_term.specs.Terms.{greatest, size_of, bound_of, variables_of, IsNumberedFrom}
use Rattle.cd_term.proofs.TermInduction.{ind, Each}
use Rattle.cd_term.proofs.Equations.{size_of-Var, size_of-App, variables_of-Var, variables_of-App}
use Rattle.cd_term.proofs.NumberingLemmas.{variables_bound}

pieces_le : (ts : List Term) → Each (λ t. length (variables_of t) ≤ size_of t) ts → length (flat_map variables_of ts) ≤ sum_by size_of ts
pieces_le [] e = omega arith
pieces_le (t ∷ ts) e = omega (arith, e.0, pieces_le ts e.1, sum_by-cons size_of t ts, length-append (variables_of t) (flat_map variables_of ts))

pub variables_le : (t : Term) → length (variables_of t) ≤ size_of t
variables_le = ind (λ t. length (variables_of t) ≤ size_of t)
    (λ n. omega (arith, ap length (variables_of-Var n), size_of-Var n))
    (λ f ts e. omega (arith, ap length (variables_of-App f ts), size_of-App f ts, pieces_le ts e))

pub all_variables_le : (ts : List Term) → length (flat_map variables_of ts) ≤ sum_by size_of ts
all_variables_le [] = omega arith
all_variables_le (t ∷ ts) = omega (arith, variables_le t, all_variables_le ts, sum_by-cons size_of t ts, length-append (variables_of t) (flat_map variables_of ts))

pub numbered_bound : (a : ℕ) (vs : List ℕ) → IsNumberedFrom a vs → greatest (map (λ n. n + 1) vs) ≤ a + length vs
numbered_bound a [] numbered = omega arith
numbered_bound a (v ∷ vs) numbered = omega (arith, numbered.0, numbered_bound (max a (v + 1)) vs numbered.1)

pub numbered_few : (ts : List Term) → IsNumberedFrom 0 (flat_map variables_of ts) → greatest (map bound_of ts) ≤ sum_by size_of ts
numbered_few ts numbered = omega (arith, variables_bound ts, numbered_bound 0 (flat_map variables_of ts) numbered, all_variables_le ts)
