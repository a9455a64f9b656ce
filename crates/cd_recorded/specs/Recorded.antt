-- Runs in which each peer does what its order of choices names, and what is recorded of them: a journal of each peer, and the
-- order in which they grew.
-- Beyond the headline: no clause of `prove` reaches peer_of.
use Rattle.std.specs.List.{list_any}
use Rattle.std.specs.Prelude.{ℕ, ◌≡◌, ◌++◌, ◌+◌, Bool, List, [], ◌∷◌, length, Option, Some, None, slice_get, slice_set}
use Rattle.cd_kbo.specs.declared.order.Order.{Order}
use Rattle.cd_ledger.specs.declared.events.Act.{Act}
use Rattle.cd_ledger.specs.declared.events.Act.TheVariants.{Admit, Declare, End, Keep, Pass, Receive, Reject, Rewrite, Work}
use Rattle.cd_ledger.specs.declared.events.Bound.{Bound}
use Rattle.cd_ledger.specs.declared.events.Event.{Event}
use Rattle.cd_ledger.specs.declared.events.Verdict.TheVariants.{Limit}
use Rattle.cd_ledger.specs.declared.local.Limits.{Limits}
use Rattle.cd_ledger.specs.declared.local.Local.{Local}
use Rattle.cd_ledger.specs.declared.records.Known.{Known}
use Rattle.cd_machine.specs.Fits.{EndFits}
use Rattle.cd_machine.specs.Rules.{is_empty}
use Rattle.cd_machine.specs.Schedule.{IsChosen}
use Rattle.cd_machine.specs.World.{IsStart, World, WorldStep, at}
use Rattle.cd_names.specs.declared.ownership.Policy.{Policy}
use Rattle.cd_read.specs.declared.problem.Problem.{Problem}

-- ---- runs by choice

-- each event is legal, and is the first by its peer's order of choices or takes a letter
abbrev pub ChosenRun : Order → Problem → World → List Event → World → Type 0
ChosenRun order p w [] v = v ≡ w
ChosenRun order p w (e ∷ es) v = (u : World) × WorldStep order p w e u × IsChosen order (at w e.peer) e.act × ChosenRun order p u es v

-- so many peers at their start
pub record AreStarting (p : Problem) (peers : ℕ) (policy : Policy) (limits : Limits) (w : World) : Type 0 where
  pub count : length w.locals ≡ peers
  pub starts : IsStart p policy limits w

-- ---- journals

abbrev pub journal_of : Local → List Event
journal_of s = s.journal

abbrev pub peer_of : Event → ℕ
peer_of e = e.peer

abbrev pub with_first : Option (List Event) → (List Event → List Event) → List Event
with_first (Some (e ∷ es)) others = e ∷ others es
with_first (Some []) others = []
with_first None others = []

-- the events of the journals in this order of peers: each entry takes that peer's next event
abbrev pub recorded : List (List Event) → List ℕ → List Event
recorded journals [] = []
recorded journals (q ∷ order) = with_first (slice_get journals q) (λ rest. recorded (slice_set journals q rest) order)

-- ---- what a run comes to

-- the empty clause is known
abbrev pub has_empty : List Known → Bool
has_empty es = list_any (λ e. is_empty e.entry.clause) es

-- a rewriting and a task are a unit each
abbrev pub units_of : Act → ℕ
units_of (Rewrite place) = 1
units_of (Keep place) = 0
units_of (Receive l) = 0
units_of (Admit place) = 0
units_of (Reject place) = 0
units_of (Work task) = 1
units_of Pass = 0
units_of Declare = 0
units_of (End verdict) = 0

abbrev pub unit_count : List Event → ℕ
unit_count [] = 0
unit_count (e ∷ es) = units_of e.act + unit_count es

-- the last event is this act
pub record EndsWith (journal : List Event) (act : Act) : Type 0 where
  pub front : List Event
  pub event : Event
  pub split : journal ≡ front ++ event ∷ []
  pub last : event.act ≡ act

-- the events have one by which a peer ends at a bound, and where it does so it has reached that bound
pub record MeetsBound (order : Order) (p : Problem) (start : World) (events : List Event) (peer : ℕ) (bound : Bound) : Type 0 where
  pub front : List Event
  pub event : Event
  pub rest : List Event
  pub split : events ≡ front ++ event ∷ rest
  pub own : event.peer ≡ peer
  pub act : event.act ≡ End (Limit bound)
  pub world : World
  pub run : ChosenRun order p start front world
  pub reached : EndFits order (at world peer) (Limit bound)
