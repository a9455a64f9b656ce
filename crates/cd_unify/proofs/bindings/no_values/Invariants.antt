use Rattle.std.proofs.Common.{◌≡◌, ℕ, length, map, get_or, None}
use Rattle.std.specs.Option.{option_copied}
use Rattle.cd_unify.proofs.bindings.no_values.Given as goal

abbrev pub invariant-loop : goal.invariant-loop
invariant-loop l = record {
  covers : length l.values.items ≡ l.counter;
  none : (k : ℕ) → get_or (map option_copied l.values.items) k None ≡ None;
}
