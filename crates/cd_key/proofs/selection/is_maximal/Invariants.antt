use Rattle.std.proofs.Common.{◌≡◌, ◌≢◌, ℕ, ◌<◌, Some}
use Rattle.std.specs.Prelude.{slice_get}
use Rattle.cd_clause.specs.declared.Literal.{Literal}
use Rattle.cd_key.specs.Literals.{IsLiteralGreater}
use Rattle.cd_key.proofs.selection.is_maximal.Given as goal

abbrev pub invariant-loop-j : goal.invariant-loop-j
invariant-loop-j l = (k : ℕ) (m : Literal) → k < l.j → k ≢ l.place → slice_get l.literals k ≡ Some m → ¬ IsLiteralGreater l.order m l.literal
