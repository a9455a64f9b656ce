-- What the status of a name says.
use Rattle.std.specs.Prelude.{Bool, true, false}
use Rattle.cd_ledger.specs.declared.records.Status.{Status}
use Rattle.cd_ledger.specs.declared.records.Status.TheVariants.{Held, Rework, Dropped, Told}
use Rattle.cd_ledger.specs.declared.records.Known.{Known}

abbrev pub status_holds : Status → Bool
status_holds Held = true
status_holds (Rework d) = false
status_holds (Dropped why) = false
status_holds (Told d) = false

abbrev pub is_held : Known → Bool
is_held e = status_holds e.status

abbrev pub status_reworks : Status → Bool
status_reworks Held = false
status_reworks (Rework d) = true
status_reworks (Dropped why) = false
status_reworks (Told d) = false

abbrev pub is_rework : Known → Bool
is_rework e = status_reworks e.status
