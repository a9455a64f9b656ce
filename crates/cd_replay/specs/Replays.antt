-- A journal played again: its events are local steps, one after another from the start, or one of them is none.
-- Beyond the headline: no clause of `prove` reaches this file.
use Rattle.std.specs.Prelude.{◌≡◌, ℕ, List, [], ◌∷◌, ◌++◌, length, Result, Ok, Err}
use Rattle.cd_kbo.specs.declared.order.Order.{Order}
use Rattle.cd_ledger.specs.declared.events.Event.{Event}
use Rattle.cd_ledger.specs.declared.letters.Letter.{Letter}
use Rattle.cd_ledger.specs.declared.local.Limits.{Limits}
use Rattle.cd_ledger.specs.declared.local.Local.{Local}
use Rattle.cd_machine.specs.Fits.{LocalStep}
use Rattle.cd_names.specs.declared.ownership.Policy.{Policy}
use Rattle.cd_peer.specs.Peers.{IsStartOf}
use Rattle.cd_peer.specs.Plain.{plain}
use Rattle.cd_read.specs.declared.problem.Problem.{Problem}
use Rattle.cd_replay.specs.declared.replaying.ReplayFault.{ReplayFault}
use Rattle.cd_replay.specs.declared.replaying.ReplayFault.TheVariants.{Illegal, Memory}

-- an event is a local step from one state to the next, whatever it sends
abbrev pub StepsBy : Order → Problem → Local → Event → Local → Type 0
StepsBy order p s e next = (letters : List Letter) × LocalStep order p s e next letters

-- the same under the plain order
abbrev pub Steps : Problem → Local → Event → Local → Type 0
Steps p s e next = StepsBy plain p s e next

-- local steps one after another
abbrev pub Replays : Problem → Local → List Event → Local → Type 0
Replays p s [] end = end ≡ s
Replays p s (e ∷ es) end = (next : Local) × Steps p s e next × Replays p next es end

-- the journal leads from a start of this peer to the end
pub record LeadsTo (p : Problem) (me peers : ℕ) (policy : Policy) (limits : Limits) (journal : List Event) (end : Local) : Type 0 where
  pub start : Local
  pub starts : IsStartOf p me peers policy limits start
  pub replays : Replays p start journal end

-- the events before this place lead from a start of this peer to a state, and from there the event in this place is no
-- local step
pub record StopsAt (p : Problem) (me peers : ℕ) (policy : Policy) (limits : Limits) (journal : List Event) (index : ℕ) : Type 0 where
  pub start : Local
  pub starts : IsStartOf p me peers policy limits start
  pub front : List Event
  pub event : Event
  pub back : List Event
  pub split : journal ≡ front ++ event ∷ back
  pub at : index ≡ length front
  pub reached : Local
  pub replays : Replays p start front reached
  pub never : (next : Local) → Steps p reached event next → ⊥

-- what the journal leads to, or the place of its first event that isn't legal; nothing is said of want of memory
abbrev pub IsReplay : Problem → ℕ → ℕ → Policy → Limits → List Event → Result Local ReplayFault → Type 0
IsReplay p me peers policy limits journal (Ok end) = LeadsTo p me peers policy limits journal end
IsReplay p me peers policy limits journal (Err (Illegal index)) = StopsAt p me peers policy limits journal index
IsReplay p me peers policy limits journal (Err Memory) = Unit {0}
