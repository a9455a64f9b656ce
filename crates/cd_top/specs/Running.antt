-- What is left of a run of peers that have a problem.
-- Beyond the headline: no clause of `prove` reaches this file.
use Rattle.std.specs.Prelude.{◌≡◌, ℕ, List, map}
use Rattle.std.specs.List.{AllByRecursion as Each}
use Rattle.cd_acts.specs.View.{local_of}
use Rattle.cd_acts.specs.declared.state.State.{State}
use Rattle.cd_ledger.specs.declared.events.Event.{Event}
use Rattle.cd_machine.specs.World.{World}
use Rattle.cd_options.specs.declared.options.Options.{Options}
use Rattle.cd_peer.specs.Peers.{PeerView}
use Rattle.cd_peer.specs.Plain.{plain}
use Rattle.cd_peer.specs.Whole.{IsWhole}
use Rattle.cd_read.specs.declared.problem.Problem.{Problem}
use Rattle.cd_recorded.specs.Recorded.{AreStarting, ChosenRun, peer_of}
use Rattle.cd_top.specs.Headline.{FollowsSeed}
use Rattle.cd_world.specs.Schedule.{HasVerdict}
use Rattle.cd_world.specs.Worlds.{locals_of}

-- a run by choice from the start, as the options ask, to a world in which a peer has a verdict; these are its states, and the peers of its
-- events
pub record HasRun (o : Options) (p : Problem) (states : List State) (order : List ℕ) : Type 0 where
  pub first : World
  pub last : World
  pub events : List Event
  pub starts : AreStarting p o.peers o.policy (record { steps = o.steps }) first
  pub run : ChosenRun plain p first events last
  pub schedule : FollowsSeed o.schedule p first events last
  pub locals : last.locals ≡ map local_of states
  pub order_is : order ≡ map peer_of events
  pub ended : HasVerdict last
  pub whole : Each (IsWhole plain p) states

-- the states of these peers, with what stands beside them
pub record AreStatesOf (p : Problem) (peers : List PeerView) (states : List State) : Type 0 where
  pub locals : map local_of states ≡ locals_of peers
  pub whole : Each (IsWhole plain p) states
