use Rattle.std.proofs.Common.{◌≡◌, ◌++◌, ◌≤◌}
use Rattle.cd_options.specs.Grid.{columns_text}
use Rattle.cd_options.proofs.grid.put_columns.Given as goal

-- the columns so far stand behind what was there
abbrev pub invariant-loop-i : goal.invariant-loop-i
invariant-loop-i l = record {
  text : l.into ≡ l.initial.into ++ columns_text l.i;
  few : l.i ≤ 60;
}
