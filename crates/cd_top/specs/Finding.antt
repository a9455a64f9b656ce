-- What is looked for among the states of the peers.
-- Beyond the headline: no clause of `prove` reaches this file.
use Rattle.std.specs.Prelude.{ℕ, ◌+◌, Bool, true, false, List, [], ◌∷◌, Option, None, Some, filter_map}
use Rattle.cd_ledger.specs.declared.events.Bound.{Bound}
use Rattle.cd_ledger.specs.declared.events.Verdict.{Verdict}
use Rattle.cd_ledger.specs.declared.events.Verdict.TheVariants as verdict
use Rattle.cd_ledger.specs.declared.local.Local.{Local}
use Rattle.cd_ledger.specs.declared.records.Known.{Known}
use Rattle.cd_ledger.specs.declared.records.Record.{Record}
use Rattle.cd_recorded.specs.Live.{live_record}
use Rattle.cd_top.specs.Headline.{is_spent}
use Rattle.cd_top.specs.declared.finding.Ending.{Ending}
use Rattle.cd_top.specs.declared.finding.Ending.TheVariants.{Refuted, Spent}

abbrev pub is_refuted : Option Verdict → Bool
is_refuted None = false
is_refuted (Some verdict.Refuted) = true
is_refuted (Some verdict.Saturated) = false
is_refuted (Some verdict.Spent) = false
is_refuted (Some (verdict.Limit b)) = false

abbrev pub ends_as : Ending → Option Verdict → Bool
ends_as Refuted v = is_refuted v
ends_as Spent v = is_spent v

abbrev pub ended_as : Ending → Local → Bool
ended_as ending s = ends_as ending s.verdict

-- the bound of a peer with this number, or what is found later
abbrev pub or_later : ℕ → Option Verdict → Option (ℕ × Bound) → Option (ℕ × Bound)
or_later k None later = later
or_later k (Some verdict.Refuted) later = later
or_later k (Some verdict.Saturated) later = later
or_later k (Some verdict.Spent) later = later
or_later k (Some (verdict.Limit b)) later = Some (k, b)

abbrev pub least_bound : ℕ → List Local → Option (ℕ × Bound)
least_bound k [] = None
least_bound k (s ∷ ss) = or_later k s.verdict (least_bound (k + 1) ss)

-- the records of the entries that this peer owns and holds
abbrev pub live_among : ℕ → List Known → List Record
live_among me known = filter_map (live_record me) known
