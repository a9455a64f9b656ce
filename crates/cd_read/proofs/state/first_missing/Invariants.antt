use Rattle.std.proofs.Common.{◌≡◌, ◌<◌, ℕ, Some, slice_get, drop, Contains}
use Rattle.cd_parse.specs.declared.label.Label.{Label}
use Rattle.cd_read.proofs.state.first_missing.Given as goal

abbrev pub invariant-loop-k : goal.invariant-loop-k
invariant-loop-k l = (j : ℕ) (m : Label) → j < l.k → slice_get l.labels j ≡ Some m → Contains (drop l.from l.seen) m
