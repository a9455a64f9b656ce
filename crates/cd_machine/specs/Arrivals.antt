-- A record comes to be known.
use Rattle.std.specs.List.{cons_option}
use Rattle.std.specs.Prelude.{List, Option, Some, [], if◌then◌else◌, map, not, ℕ, ◌++◌, ◌==◌, ◌∷◌}
use Rattle.cd_clause.specs.declared.Clause.{Clause}
use Rattle.cd_ledger.specs.Records.{cites_of, owner_by}
use Rattle.cd_ledger.specs.Statuses.{is_held}
use Rattle.cd_ledger.specs.declared.events.Verdict.{Verdict}
use Rattle.cd_ledger.specs.declared.events.Verdict.TheVariants.{Refuted}
use Rattle.cd_ledger.specs.declared.items.Item.{Item}
use Rattle.cd_ledger.specs.declared.local.Local.{Local}
use Rattle.cd_ledger.specs.declared.records.Known.{Known}
use Rattle.cd_ledger.specs.declared.records.Record.{Record}
use Rattle.cd_ledger.specs.declared.records.Status.TheVariants.{Held}
use Rattle.cd_machine.specs.Contraction.{loss, lost, rework_of}
use Rattle.cd_machine.specs.Rules.{is_empty}
use Rattle.cd_names.specs.declared.How.{How}
use Rattle.cd_names.specs.declared.names.Name.{Name}
use Rattle.cd_tasks.specs.Order.{new_tasks}
use Rattle.cd_tasks.specs.declared.Arrival.{Arrival}
use Rattle.cd_tasks.specs.declared.Task.{Task}

-- a known name as an arrival of tasks: what isn't held is covered
abbrev pub arrival_of : ℕ → Known → Arrival
arrival_of me e = record { name = e.entry.name; resident = e.entry.owner == me; covered = not (is_held e) }

-- the tasks of a new record, behind the known names, in their order
abbrev pub tasks_of : ℕ → Record → List Known → List Task
tasks_of me r es = new_tasks r.name (r.owner == me) (map (arrival_of me) es)

-- the name that this peer gives next
abbrev pub next_name : Local → Name
next_name s = record { peer = s.me; seq = s.next_seq }

-- the record that an item becomes
abbrev pub new_record : Local → Item → Record
new_record s i = record { name = next_name s; owner = owner_by s.policy s.peers (next_name s) i.clause; clause = i.clause; steps = i.steps; cites = cites_of i.steps }

-- a record that is held
abbrev pub held : Record → Known
held r = record { entry = r; status = Held }

-- a record comes to be held, and its tasks are owed behind the others
abbrev pub joined : Local → Record → Local
joined s r = record s { known = s.known ++ held r ∷ []; owed = s.owed ++ tasks_of s.me r s.known }

-- a record comes to be held, and strikes
abbrev pub arrived : Local → (Known → Option How) → Record → Local
arrived s hit r = joined (lost s hit r.name) r

-- a record that is hit as it comes
abbrev pub shelved : Local → Record → Name → How → Local
shelved s r d h = record s {
  known = s.known ++ record { entry = r; status = loss s.me d h r } ∷ [];
  pending = s.pending ++ cons_option (rework_of s.me d r (Some h)) [];
}

-- the empty clause sets the verdict
abbrev pub refuted_by : Clause → Option Verdict → Option Verdict
refuted_by c v = if is_empty c then Some Refuted else v
