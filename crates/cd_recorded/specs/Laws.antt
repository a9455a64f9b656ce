-- What a run by choice comes to, for any number of peers.
-- Beyond the headline: no clause of `prove` reaches this file.
use Rattle.std.specs.List.{flat_map}
use Rattle.std.specs.Prelude.{ℕ, ◌≡◌, ◌<◌, true, false, List, length, map, None, Option, Some, sum_by, IsPermutation, IsSortedByKey}
use Rattle.cd_kbo.specs.declared.order.Order.{Order}
use Rattle.cd_ledger.specs.declared.events.Act.TheVariants.{End}
use Rattle.cd_ledger.specs.declared.events.Event.{Event}
use Rattle.cd_ledger.specs.declared.events.Verdict.{Verdict}
use Rattle.cd_ledger.specs.declared.events.Verdict.TheVariants.{Limit, Refuted, Saturated, Spent}
use Rattle.cd_ledger.specs.declared.local.Limits.{Limits}
use Rattle.cd_ledger.specs.declared.records.Record.{Record}
use Rattle.cd_machine.specs.Carried.{IsClosed}
use Rattle.cd_machine.specs.World.{IsStart, Run, World, at}
use Rattle.cd_names.specs.Orders.{name_cmp}
use Rattle.cd_names.specs.declared.ownership.Policy.{Policy}
use Rattle.cd_read.specs.declared.problem.Problem.{Problem}
use Rattle.cd_recorded.specs.Live.{AreLive, live_records, name_of}
use Rattle.cd_recorded.specs.Recorded.{ChosenRun, EndsWith, MeetsBound, has_empty, journal_of, peer_of, recorded, unit_count}

-- what the verdict of a peer says of its state, of the world, and of the run that led there
abbrev pub VerdictSays : Order → Problem → World → List Event → World → ℕ → Option Verdict → Type 0
VerdictSays order p start events w q None = has_empty (at w q).known ≡ false
VerdictSays order p start events w q (Some Refuted) = has_empty (at w q).known ≡ true
VerdictSays order p start events w q (Some Saturated) = (has_empty (at w q).known ≡ false) × IsClosed w
VerdictSays order p start events w q (Some Spent) =
    (has_empty (at w q).known ≡ false) × ((at w q).units ≡ (at w q).limits.steps) × EndsWith (at w q).journal (End Spent)
VerdictSays order p start events w q (Some (Limit bound)) = (has_empty (at w q).known ≡ false) × MeetsBound order p start events q bound

-- what is known of a peer at the end of a run
pub record Says (order : Order) (p : Problem) (limits : Limits) (start : World) (events : List Event) (w : World) (q : ℕ) : Type 0 where
  pub limits_are : (at w q).limits ≡ limits
  pub units : unit_count (at w q).journal ≡ (at w q).units
  pub verdict : VerdictSays order p start events w q (at w q).verdict

-- each verdict has its cause, and the units that a peer counts are those of its journal
abbrev pub RunsSay : Type 0
RunsSay = (order : Order) (p : Problem) (policy : Policy) (limits : Limits) (start : World) (events : List Event) (w : World)
    → IsStart p policy limits start → ChosenRun order p start events w → (q : ℕ) → q < length w.locals → Says order p limits start events w q

-- the events are those that the journals of the last world give in the order of the events' peers, and use them up
pub record IsJournalled (events : List Event) (w : World) : Type 0 where
  pub events_are : recorded (map journal_of w.locals) (map peer_of events) ≡ events
  pub count : length (map peer_of events) ≡ sum_by length (map journal_of w.locals)

abbrev pub RunsAreJournalled : Type 0
RunsAreJournalled = (order : Order) (p : Problem) (policy : Policy) (limits : Limits) (start : World) (events : List Event) (w : World)
    → IsStart p policy limits start → Run order p start events w → IsJournalled events w

-- a run by choice is a run
abbrev pub ChosenAreRuns : Type 0
ChosenAreRuns = (order : Order) (p : Problem) (start : World) (events : List Event) (w : World) → ChosenRun order p start events w → Run order p start events w

-- the records of all live names, in an order of names that isn't strict, are in a strict one: no live name comes twice
abbrev pub LiveNamesAreOne : Type 0
LiveNamesAreOne = (order : Order) (p : Problem) (policy : Policy) (limits : Limits) (start : World) (events : List Event) (w : World) (rs : List Record)
    → IsStart p policy limits start → Run order p start events w → IsPermutation (flat_map live_records w.locals) rs → IsSortedByKey name_of name_cmp rs → AreLive w rs
