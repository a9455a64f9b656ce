use Rattle.std.proofs.Common.{◌≡◌, ◌≤◌, ◌*◌, ◌^◌, sum_by, take}
use Rattle.cd_key.specs.Repeats.{variable_count, clause_sides}
use Rattle.cd_key.proofs.repeats.clause_variables.Given as goal

abbrev pub invariant-loop-literal : goal.invariant-loop-literal
invariant-loop-literal l = record {
  so_far : l.total ≡ sum_by variable_count (clause_sides (take l.literal-index l.literal-items));
  small : l.total ≤ l.literal-index * 2 ^ 33;
}
