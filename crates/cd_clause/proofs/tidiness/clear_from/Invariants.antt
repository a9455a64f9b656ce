use Rattle.std.proofs.Common.{ℕ, ◌<◌, ◌≤◌}
use Rattle.cd_clause.specs.Tidiness.{IsLeftOut}
use Rattle.cd_clause.proofs.tidiness.clear_from.Given as goal

abbrev pub invariant-loop-i : goal.invariant-loop-i
invariant-loop-i l = (l.clear ≤ l.i) × ((k : ℕ) → l.clear ≤ k → k < l.i → ¬ IsLeftOut l.literals k)
