-- The laws of the stated schedule, and of the times of events.
-- Beyond the headline: no clause of `prove` reaches this file.
use Rattle.std.specs.List.{AllByRecursion as Each}
use Rattle.std.specs.Prelude.{◌≡◌, ◌≤◌, ℕ, suc, List, length}
use Rattle.cd_kbo.specs.declared.order.Order.{Order}
use Rattle.cd_ledger.specs.declared.events.Event.{Event}
use Rattle.cd_ledger.specs.declared.local.Limits.{Limits}
use Rattle.cd_machine.specs.Schedule.{IsPick}
use Rattle.cd_machine.specs.World.{IsStart, Run, World}
use Rattle.cd_names.specs.declared.ownership.Policy.{Policy}
use Rattle.cd_read.specs.declared.problem.Problem.{Problem}
use Rattle.cd_recorded.specs.Recorded.{ChosenRun}
use Rattle.cd_world.specs.Schedule.{IsDraw, Moment, Scheduled}

-- each draw is one choice of a schedule
abbrev pub DrawsArePicks : Type 0
DrawsArePicks = (order : Order) (p : Problem) (m : Moment) (e : Event) (n : Moment) → IsDraw order p m e n → IsPick order p m.counter m.world e n.counter n.world

-- at a moment one choice is drawn, and no other
abbrev pub DrawsAreOne : Type 0
DrawsAreOne = (order : Order) (p : Problem) (m : Moment) (e f : Event) (n o : Moment) → (d : IsDraw order p m e n) → (g : IsDraw order p m f o) → d.choice ≡ g.choice

-- no list of draws goes on for ever
abbrev pub SchedulesEnd : Type 0
SchedulesEnd = (order : Order) (p : Problem) (policy : Policy) (limits : Limits) (start : World) (events : List Event) (moments : ℕ → Moment) (picks : ℕ → Event)
    → IsStart p policy limits start → Run order p start events (moments 0).world → ((k : ℕ) → IsDraw order p (moments k) (picks k) (moments (suc k))) → ⊥

-- from the start the events and the end are a function of the problem, the policy, the limits, the number of peers and the seed
abbrev pub SchedulesAreOne : Type 0
SchedulesAreOne = (order : Order) (p : Problem) (policy : Policy) (limits : Limits) (start other : World) (seed : ℕ) (es fs : List Event) (v u : World)
    → IsStart p policy limits start → IsStart p policy limits other → length start.locals ≡ length other.locals → Scheduled order p seed start es v → Scheduled order p seed other fs u → (es ≡ fs) × (v ≡ u)

-- no event's time is above the number of events
abbrev pub TimesAreFew : Type 0
TimesAreFew = (order : Order) (p : Problem) (policy : Policy) (limits : Limits) (start : World) (events : List Event) (end : World)
    → IsStart p policy limits start → Run order p start events end → Each (λ e. e.time ≤ length events) events

-- a run of the stated schedule is a run by choice
abbrev pub SchedulesAreChosen : Type 0
SchedulesAreChosen = (order : Order) (p : Problem) (seed : ℕ) (start : World) (events : List Event) (end : World) → Scheduled order p seed start events end → ChosenRun order p start events end
