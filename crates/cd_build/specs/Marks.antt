-- Marks of wanted records by their places.
-- Beyond the headline: no clause of `prove` reaches this file.
use Rattle.std.specs.Prelude.{ℕ, Bool, false, List, map, slice_get, unwrap_or}
use Rattle.cd_alone.specs.Derived.{is_wanted}
use Rattle.cd_ledger.specs.declared.records.Known.{Known}
use Rattle.cd_names.specs.declared.names.Name.{Name}

-- whether the place is marked
abbrev pub is_marked : List Bool → ℕ → Bool
is_marked marks k = unwrap_or (slice_get marks k) false

-- for each entry, whether its name is among these
abbrev pub wanted_marks : List Name → List Known → List Bool
wanted_marks names es = map (λ e. is_wanted names e.entry.name) es
