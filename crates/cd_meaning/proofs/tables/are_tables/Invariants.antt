use Rattle.std.proofs.Common.{map, take}
use Rattle.std.specs.List.{AllByRecursion}
use Rattle.cd_clause.specs.Truth.{IsTable}
use Rattle.cd_meaning.specs.Interps.{table_of}
use Rattle.cd_meaning.proofs.tables.are_tables.Given as goal

abbrev pub invariant-loop-table : goal.invariant-loop-table
invariant-loop-table l = AllByRecursion (IsTable l.size) (map table_of (take l.table-index l.tables))
