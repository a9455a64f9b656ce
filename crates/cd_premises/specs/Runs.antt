-- The laws over runs, and those of one peer alone, with nothing assumed of the rules.
-- Beyond the headline: no clause of `prove` reaches this file.
use Rattle.std.specs.Prelude.{◌≡◌, ◌≢◌, ◌⊎◌, ℕ, suc, ◌<◌, List, length, Some, None}
use Rattle.std.specs.List.{AllByRecursion as Each}
use Rattle.cd_kbo.specs.declared.order.Order.{Order}
use Rattle.cd_names.specs.declared.ownership.Policy.{Policy}
use Rattle.cd_ledger.specs.declared.events.Act.TheVariants.{Reject, Declare}
use Rattle.cd_ledger.specs.declared.events.Event.{Event}
use Rattle.cd_ledger.specs.declared.events.Verdict.TheVariants.{Refuted}
use Rattle.cd_ledger.specs.declared.local.Limits.{Limits}
use Rattle.cd_ledger.specs.declared.local.Local.{Local}
use Rattle.cd_read.specs.declared.problem.Problem.{Problem}
use Rattle.cd_machine.specs.Turns.{IsTurning}
use Rattle.cd_machine.specs.World.{World, at, WorldStep, Run, IsStart}
use Rattle.cd_machine.specs.Schedule.{IsRunning, IsPick}
use Rattle.cd_laws.specs.Statements.{Laws}
use Rattle.cd_laws.specs.Closing.{IsDeclared}
use Rattle.cd_laws.specs.Measure.{IsTokenAct, Lower}
use Rattle.cd_laws.specs.Schedule.{IsSchedule}
use Rattle.cd_effects.specs.Effects.{EffectsAt}
use Rattle.cd_alone.specs.Alone.{AloneRun, IsAlone}
use Rattle.cd_alone.specs.Derived.{Line, IsDerivation, IsRefutation}

-- what holds after a run, and so after each front of one
pub record AfterRun (order : Order) (p : Problem) (events : List Event) (w : World) : Type 0 where
  -- names, contraction, descent, models, accounts of tasks, the token
  pub laws : Laws order p w
  -- nothing was rejected
  pub rejects : Each (λ e. (k : ℕ) → e.act ≢ Reject k) events
  -- a legal event has one effect
  pub effects : EffectsAt order p w
  -- at a peer without a verdict one event is first and legal, or none and it is idle
  pub turns : (q : ℕ) → q < length w.locals → (at w q).verdict ≡ None → IsTurning order p (at w q)
  -- an event is one of the token's, sets a verdict, or lowers the measure
  pub falls : (e : Event) (v : World) (h : WorldStep order p w e v) → IsTokenAct e.act h.found ⊎ (((at v e.peer).verdict ≢ None) ⊎ Lower v w)
  -- a Declare leads to a closed world, and ends the run
  pub declares : (e : Event) (v : World) → WorldStep order p w e v → e.act ≡ Declare → IsDeclared order p v
  -- what falls at each choice of a schedule
  pub schedule : IsRunning w → IsSchedule order p w

abbrev pub RunsAreRight : Type 0
RunsAreRight = (order : Order) (p : Problem) (policy : Policy) (limits : Limits) (start w : World) (events : List Event) → IsStart p policy limits start → Run order p start events w → AfterRun order p events w

-- no schedule goes on for ever
abbrev pub SchedulesAreFinite : Type 0
SchedulesAreFinite = (order : Order) (p : Problem) (policy : Policy) (limits : Limits) (start : World) (events : List Event) (counters : ℕ → ℕ) (worlds : ℕ → World) (picks : ℕ → Event)
    → IsStart p policy limits start → Run order p start events (worlds 0) → ((k : ℕ) → IsPick order p (counters k) (worlds k) (picks k) (counters (suc k)) (worlds (suc k))) → ⊥

-- what holds of one peer, whatever letters it is given
pub record AfterAlone (order : Order) (p : Problem) (s : Local) : Type 0 where
  pub lawful : IsAlone order p s
  pub turn : s.verdict ≡ None → IsTurning order p s
  -- where it ends Refuted a derivation is there, and each is a refutation
  pub derives : s.verdict ≡ Some Refuted → (lines : List Line) × IsDerivation p s lines
  pub refutes : s.verdict ≡ Some Refuted → (lines : List Line) → IsDerivation p s lines → IsRefutation p lines

abbrev pub AloneRunsAreRight : Type 0
AloneRunsAreRight = (order : Order) (p : Problem) (start s : Local) (events : List Event) → AloneRun order p start events s → AfterAlone order p s
