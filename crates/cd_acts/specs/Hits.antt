-- A list of hits as a test of entries.
-- Beyond the headline: no clause of `prove` reaches this file.
use Rattle.std.specs.Prelude.{◌≡◌, ◌⊎◌, true, List, [], ◌∷◌, Option, Some, None, if◌then◌else◌}
use Rattle.cd_contract.specs.declared.held.Struck.{Struck}
use Rattle.cd_ledger.specs.declared.records.Known.{Known}
use Rattle.cd_ledger.specs.Statuses.{is_held}
use Rattle.cd_names.specs.declared.How.{How}
use Rattle.cd_names.specs.declared.names.Name.{Name}
use Rattle.cd_names.specs.Names.{name_eq}

-- how a name is hit, if it is
abbrev pub how_in : List Struck → Name → Option How
how_in [] n = None
how_in (h ∷ hs) n = if name_eq n h.of then Some h.how else how_in hs n

abbrev pub by_name : List Struck → Known → Option How
by_name hs e = how_in hs e.entry.name

-- the hits are of held entries, in the order of the entries
abbrev pub AreAmong : List Known → List Struck → Type 0
AreAmong [] hits = hits ≡ []
AreAmong (e ∷ es) hits =
    AreAmong es hits ⊎ ((h : Struck) × (rest : List Struck) × (hits ≡ h ∷ rest) × (h.of ≡ e.entry.name) × (is_held e ≡ true) × AreAmong es rest)
