-- The live clauses of a world, as they are listed.
use Rattle.std.specs.List.{flat_map}
use Rattle.std.specs.List.Sorted.{IsStrictlySortedBy}
use Rattle.std.specs.Prelude.{ℕ, ◌&&◌, ◌==◌, if◌then◌else◌, List, filter_map, map, None, Option, Some, IsPermutation}
use Rattle.cd_ledger.specs.Statuses.{is_held}
use Rattle.cd_ledger.specs.declared.local.Local.{Local}
use Rattle.cd_ledger.specs.declared.records.Known.{Known}
use Rattle.cd_ledger.specs.declared.records.Record.{Record}
use Rattle.cd_machine.specs.World.{World}
use Rattle.cd_names.specs.Orders.{name_cmp}
use Rattle.cd_names.specs.declared.names.Name.{Name}

-- the record of an entry that its owner holds
abbrev pub live_record : ℕ → Known → Option Record
live_record me e = if is_held e && (e.entry.owner == me) then Some e.entry else None

abbrev pub live_records : Local → List Record
live_records s = filter_map (live_record s.me) s.known

abbrev pub name_of : Record → Name
name_of r = r.name

-- these are the records of all live names, in the order of names
pub record AreLive (w : World) (rs : List Record) : Type 0 where
  pub live : IsPermutation (flat_map live_records w.locals) rs
  pub ordered : IsStrictlySortedBy name_cmp (map name_of rs)
