-- A state whose owed tasks stand in a list beside it, since a journal may do them in any order.
-- Beyond the headline: no clause of `prove` reaches this file.
use Rattle.std.specs.Prelude.{◌≡◌, ℕ, Bool, true, false, ◌&&◌, List, [], ◌∷◌, ◌++◌, filter, Option, Some, None, slice_get, remove}
use Rattle.std.specs.List.{AllByRecursion as Each, list_any}
use Rattle.cd_acts.specs.Acts.{Does}
use Rattle.cd_acts.specs.Indexed.{IsIndexed, IsSensible}
use Rattle.cd_acts.specs.View.{local_of}
use Rattle.cd_alone.specs.Going.{Going}
use Rattle.cd_alone.specs.Ready.{IsReady}
use Rattle.cd_kbo.specs.declared.order.Order.{Order}
use Rattle.cd_ledger.specs.Records.{is_of}
use Rattle.cd_ledger.specs.Statuses.{is_held}
use Rattle.cd_ledger.specs.declared.events.Act.{Act}
use Rattle.cd_ledger.specs.declared.events.Event.{Event}
use Rattle.cd_ledger.specs.declared.items.Item.{Item}
use Rattle.cd_ledger.specs.declared.letters.Letter.{Letter}
use Rattle.cd_ledger.specs.declared.local.Local.{Local}
use Rattle.cd_ledger.specs.declared.records.Known.{Known}
use Rattle.cd_machine.specs.Events.{Found, clock_after}
use Rattle.cd_machine.specs.Fits.{Fits}
use Rattle.cd_names.specs.declared.names.Name.{Name}
use Rattle.cd_read.specs.declared.problem.Problem.{Problem}
use Rattle.cd_tasks.specs.declared.Task.{Task}
use Rattle.cd_tasks.specs.declared.Task.TheVariants.{Pair, Solo}
use Rattle.cd_replay.specs.Replays.{StepsBy}
use Rattle.cd_replay.specs.declared.replayer.Replayer.{Replayer}

-- ---- tasks

-- a name is known and held
abbrev pub lives : List Known → Name → Bool
lives es n = list_any (λ e. is_of n e && is_held e) es

-- the names of a task are known and held
abbrev pub is_living : List Known → Task → Bool
is_living es (Solo a) = lives es a
is_living es (Pair a b) = lives es a && lives es b

abbrev pub IsLiving : List Known → Task → Type 0
IsLiving es t = is_living es t ≡ true

-- what is still owed of some tasks, and behind it those that the state has
abbrev pub rejoined : Local → List Task → Local
rejoined t owed = record t { owed = filter (is_living t.known) owed ++ t.owed }

-- ---- the state

-- a state with the tasks of the list in the place of its own
abbrev pub replayed : Replayer → Local
replayed r = record (local_of r.state) { owed = r.owed }

-- the state owes nothing itself, and the tasks of the list are of held names
pub record IsDrained (r : Replayer) : Type 0 where
  pub indexed : IsIndexed r.state
  pub none : r.state.tasks.owed ≡ []
  pub living : Each (IsLiving r.state.known) r.owed

-- what an act asks
pub record CanAct (order : Order) (r : Replayer) : Type 0 where
  pub drained : IsDrained r
  pub sensible : IsSensible (local_of r.state)
  pub ready : IsReady order (replayed r)

-- what holds between the events
pub record IsWhole (order : Order) (p : Problem) (r : Replayer) : Type 0 where
  pub drained : IsDrained r
  pub going : Going order p (replayed r)

-- ---- acts and events

-- whatever is found for the act, it doesn't fit
abbrev pub NeverFits : Order → Problem → Local → Act → Type 0
NeverFits order p s act = (f : Found act) → Fits order p s act f → ⊥

-- the act was done
pub record HasDone (order : Order) (p : Problem) (s : Local) (time : ℕ) (act : Act) (r : Replayer) (letters : List Letter) : Type 0 where
  pub does : Does order p s time act (replayed r) letters
  pub drained : IsDrained r

-- the act was done, with these letters; or it doesn't fit
abbrev pub Judges : Order → Problem → Local → ℕ → Act → Replayer → Option (List Letter) → Type 0
Judges order p s time act r None = NeverFits order p s act
Judges order p s time act r (Some letters) = HasDone order p s time act r letters

-- an event may come: there is no verdict, and its peer and its time are right
pub record IsDue (s : Local) (e : Event) : Type 0 where
  pub running : s.verdict ≡ None
  pub own : e.peer ≡ s.me
  pub time : e.time ≡ clock_after s.clock e.act

-- the event was made; or it is no local step
abbrev pub Decides : Order → Problem → Local → Event → Replayer → Bool → Type 0
Decides order p s e r true = StepsBy order p s e (replayed r) × IsWhole order p r
Decides order p s e r false = (next : Local) → StepsBy order p s e next → ⊥

-- ---- places

-- the item in a place is first, and the others stand behind it in their order
abbrev pub IsBrought : List Item → ℕ → List Item → Type 0
IsBrought items place after = (i : Item) × (slice_get items place ≡ Some i) × (after ≡ i ∷ remove items place)

-- a task in a place, or there is none like it
abbrev pub IsTaskPlace : Task → List Task → Option ℕ → Type 0
IsTaskPlace t tasks None = (k : ℕ) → slice_get tasks k ≡ Some t → ⊥
IsTaskPlace t tasks (Some place) = slice_get tasks place ≡ Some t
