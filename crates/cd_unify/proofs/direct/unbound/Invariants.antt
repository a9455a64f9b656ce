use Rattle.std.proofs.Common.{◌≡◌, ℕ, length, get_or, None}
use Rattle.cd_unify.specs.Direct.{bound_to}
use Rattle.cd_unify.proofs.direct.unbound.Given as goal

abbrev pub invariant-loop : goal.invariant-loop
invariant-loop l = record {
  covers : length l.values.items ≡ l.counter;
  none : (k : ℕ) → get_or (bound_to l.values.items) k None ≡ None;
}
