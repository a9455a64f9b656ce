-- Contraction: one primitive for whatever makes held clauses superfluous. A test says which entries are hit, and how: it is a map over
-- the known names, a filter over the owed tasks, and two gathered lists, the items that take the place of what is reduced at
-- its owner, and the notices to owners elsewhere.
use Rattle.std.specs.List.{list_any}
use Rattle.std.specs.Prelude.{Bool, List, None, Option, Some, [], filter, filter_map, if◌then◌else◌, is_some, map, not, ℕ, ◌&&◌, ◌++◌, ◌==◌, ◌∷◌}
use Rattle.cd_ledger.specs.Records.{is_of}
use Rattle.cd_ledger.specs.Statuses.{is_held}
use Rattle.cd_ledger.specs.declared.items.Item.{Item}
use Rattle.cd_ledger.specs.declared.letters.Letter.{Letter}
use Rattle.cd_ledger.specs.declared.local.Local.{Local}
use Rattle.cd_ledger.specs.declared.records.Known.{Known}
use Rattle.cd_ledger.specs.declared.records.Record.{Record}
use Rattle.cd_ledger.specs.declared.records.Status.{Status}
use Rattle.cd_ledger.specs.declared.records.Status.TheVariants.{Dropped, Rework, Told}
use Rattle.cd_names.specs.declared.How.{How}
use Rattle.cd_names.specs.declared.names.Name.{Name}
use Rattle.cd_tasks.specs.Owing.{touches}
use Rattle.cd_tasks.specs.declared.Task.{Task}
use Rattle.cd_steps.specs.declared.Step.TheVariants as step
use Rattle.cd_names.specs.declared.How.TheVariants as how
use Rattle.cd_ledger.specs.declared.items.Origin.TheVariants as origin
use Rattle.cd_ledger.specs.declared.records.Reason.TheVariants as reason
use Rattle.cd_ledger.specs.declared.letters.Body.TheVariants as body

-- what a name becomes at its owner where a clause makes it superfluous
abbrev pub lost_home : How → Name → Status
lost_home how.Subsumes d = Dropped (reason.Subsumed d)
lost_home how.Reduces d = Rework d

-- and at any peer: elsewhere the owner is told
abbrev pub loss : ℕ → Name → How → Record → Status
loss me d h r = if r.owner == me then lost_home h d else Told d

-- how a held entry is hit
abbrev pub hit_on : (Known → Option How) → Known → Option How
hit_on hit e = if is_held e then hit e else None

-- an entry after a hit, if there is one
abbrev pub struck_by : ℕ → Name → Known → Option How → Known
struck_by me d e None = e
struck_by me d e (Some h) = record e { status = loss me d h e.entry }

abbrev pub strike_one : ℕ → (Known → Option How) → Name → Known → Known
strike_one me hit d e = struck_by me d e (hit_on hit e)

-- all entries after the hits of the clause with this name
abbrev pub struck : ℕ → (Known → Option How) → Name → List Known → List Known
struck me hit d es = map (strike_one me hit d) es

-- owed tasks with a struck name are covered
abbrev pub is_struck : (Known → Option How) → List Known → Name → Bool
is_struck hit es n = list_any (λ e. is_of n e && is_some (hit_on hit e)) es

-- what is still owed
abbrev pub uncovered : (Known → Option How) → List Known → List Task → List Task
uncovered hit es ts = filter (λ t. not (touches (is_struck hit es) t)) ts

-- an item for what is reduced at its owner
abbrev pub rework_item : Name → Record → Item
rework_item d r = record { origin = origin.Rework r.name; forced = Some d; steps = step.Copy r.name ∷ []; clause = r.clause }

-- where a hit reduces a record of this peer's, its item
abbrev pub rework_of : ℕ → Name → Record → Option How → Option Item
rework_of me d r None = None
rework_of me d r (Some how.Subsumes) = None
rework_of me d r (Some how.Reduces) = if r.owner == me then Some (rework_item d r) else None

-- in the order of the entries
abbrev pub reworks : ℕ → (Known → Option How) → Name → List Known → List Item
reworks me hit d es = filter_map (λ e. rework_of me d e.entry (hit_on hit e)) es

-- a notice to the owner elsewhere
abbrev pub notice : ℕ → ℕ → Name → How → Record → Letter
notice me time d h r = record { sender = me; to = r.owner; time = time; body = body.Notice r.name d h }

-- where a hit loses a record of another peer's, its notice
abbrev pub notice_of : ℕ → ℕ → Name → Record → Option How → Option Letter
notice_of me time d r None = None
notice_of me time d r (Some h) = if r.owner == me then None else Some (notice me time d h r)

-- in the order of the entries
abbrev pub notices : ℕ → ℕ → (Known → Option How) → Name → List Known → List Letter
notices me time hit d es = filter_map (λ e. notice_of me time d e.entry (hit_on hit e)) es

-- the state after the hits: statuses, covered tasks, and items for what is reduced
abbrev pub lost : Local → (Known → Option How) → Name → Local
lost s hit d = record s {
  known = struck s.me hit d s.known;
  owed = uncovered hit s.known s.owed;
  pending = s.pending ++ reworks s.me hit d s.known;
}

-- a test that hits one name
abbrev pub named_hit : Name → How → Known → Option How
named_hit n h e = if is_of n e then Some h else None
