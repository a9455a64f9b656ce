use Rattle.std.proofs.Common.{refl, sym, subst}
use Rattle.std.proofs.lemmas.Bool.{false≢true}
use Rattle.cd_clause.specs.Truth.{IsTable}
use Rattle.cd_meaning.specs.declared.Table.{Table}
use Rattle.cd_meaning.specs.Interps.{table_of}
use Rattle.cd_meaning.proofs.Holding.{all_more, all_at, all_whole}
use Rattle.cd_meaning.proofs.tables.are_tables.Goals as goal

pub returns-then-not-is_table : goal.returns-then-not-is_table
returns-then-not-is_table c = (
  (λ e. absurd (false≢true e)),
  (λ all. absurd (false≢true (c.if-not-is_table.ensures.1
      (subst (λ (t : Table). IsTable c.args.size (table_of t)) (sym c.table-item.is) (all_at table_of (IsTable c.args.size) c.args.tables.now c.loop-table.table-index c.table-item.result c.loop-table-test.true all))))),
)

pub loop-table-preserved : goal.loop-table-preserved
loop-table-preserved c =
    all_more table_of (IsTable c.args.size) c.args.tables.now c.loop-table.table-index c.table-item.result c.loop-table-test.true c.table-item.is c.loop-table.invariant (c.if-not-is_table.ensures.0 refl)

pub returns : goal.returns
returns c = (
  (λ _. all_whole table_of (IsTable c.args.size) c.args.tables.now c.loop-table.table-index c.loop-table-test.false c.loop-table.invariant),
  (λ _. refl),
)
