use Rattle.std.proofs.Common.{◌≡◌, ◌<◌, ◌≤◌, ◌↔◌, ℕ, Bool, IsTrue, Some, length, slice_get}
use Rattle.cd_clause.specs.Tidiness.{IsLeftOut}
use Rattle.cd_clause.proofs.tidiness.mark.Given as goal

abbrev pub invariant-loop-i : goal.invariant-loop-i
invariant-loop-i l = (length l.marks ≤ l.i-end)
    × ((k : ℕ) (b : Bool) → k < l.i → slice_get l.marks k ≡ Some b → (IsTrue b ↔ IsLeftOut l.literals k))
