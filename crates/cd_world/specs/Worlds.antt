-- A world as contracts see it: it is the end of a run, whose events are the journals in the sequence of the order.
-- Beyond the headline: no clause of `prove` reaches this file.
use Rattle.std.specs.List.{AllByRecursion as Each}
use Rattle.std.specs.Prelude.{◌≡◌, ◌⊎◌, ℕ, ◌<◌, ◌^◌, ◌==◌, Bool, true, false, List, [], ◌∷◌, ◌++◌, filter, length, map, remove, slice_get, slice_index_or, slice_set, Some, None}
use Rattle.cd_kbo.specs.declared.order.Order.{Order}
use Rattle.cd_ledger.specs.declared.events.Event.{Event}
use Rattle.cd_ledger.specs.declared.letters.Letter.{Letter}
use Rattle.cd_ledger.specs.declared.local.Limits.{Limits}
use Rattle.cd_ledger.specs.declared.local.Local.{Local}
use Rattle.cd_machine.specs.Turns.{IsIdle, IsTurn}
use Rattle.cd_machine.specs.World.{IsStart, Run, World, nobody}
use Rattle.cd_names.specs.declared.ownership.Policy.{Policy}
use Rattle.cd_peer.specs.Peers.{IsFallen, PeerView, StartsAs}
use Rattle.cd_peer.specs.Plain.{plain}
use Rattle.cd_peer.specs.Turns.{HasReceived}
use Rattle.cd_peer.specs.declared.peer.Turned.{Turned}
use Rattle.cd_peer.specs.declared.peer.Turned.TheVariants.{Did, Idle}
use Rattle.cd_read.specs.declared.problem.Problem.{Problem}
use Rattle.cd_recorded.specs.Recorded.{peer_of}
use Rattle.cd_world.specs.declared.moving.Choice.{Choice}
use Rattle.cd_world.specs.declared.moving.Choice.TheVariants.{Turn, Deliver}

-- a peer that isn't there
abbrev pub no_peer : PeerView
no_peer = record { problem = record { name = []; symbols = []; inputs = [] }; local = nobody; outgoing = []; fallen = false }

abbrev pub peer_at : List PeerView → ℕ → PeerView
peer_at vs q = slice_index_or vs q no_peer

abbrev pub local_in : PeerView → Local
local_in v = v.local

abbrev pub locals_of : List PeerView → List Local
locals_of vs = map local_in vs

-- the parts that an event changes
pub record Parts : Type 0 where
  pub peers : List PeerView
  pub travelling : List Letter
  pub order : List ℕ

abbrev pub world_of : Parts → World
world_of v = record { locals = locals_of v.peers; travelling = v.travelling }

pub record WorldView : Type 0 where
  pub problem : Problem
  pub policy : Policy
  pub limits : Limits
  pub parts : Parts
  pub fallen : Bool

-- ---- the sequence of the events

abbrev pub is_at : ℕ → Event → Bool
is_at q e = e.peer == q

-- the events are those of the journals, each once and in the journal's order, and the turns are their peers
pub record IsSequence (turns : List ℕ) (peers : List PeerView) (events : List Event) : Type 0 where
  pub peers_of : map peer_of events ≡ turns
  pub journals : (q : ℕ) → q < length peers → filter (is_at q) events ≡ (peer_at peers q).local.journal
  pub inside : Each (λ e. e.peer < length peers) events

-- a run that has these journals
pub record IsPast (order : Order) (p : Problem) (policy : Policy) (limits : Limits) (turns : List ℕ) (peers : List PeerView) (end : World) : Type 0 where
  pub start : World
  pub events : List Event
  pub starts : IsStart p policy limits start
  pub run : Run order p start events end
  pub few : length start.locals < 2 ^ 16
  pub many : length end.locals ≡ length peers
  pub sequence : IsSequence turns peers events

-- a peer in a world without want of memory
pub record Stands (p : Problem) (v : PeerView) : Type 0 where
  pub standing : v.fallen ≡ false
  pub taken : v.outgoing ≡ []
  pub problem : v.problem ≡ p

-- a run has these journals; without want of memory, its end is this world
pub record IsWorld (v : WorldView) : Type 0 where
  pub end : World
  pub past : IsPast plain v.problem v.policy v.limits v.parts.order v.parts.peers end
  pub now_ : v.fallen ≡ false → (world_of v.parts ≡ end) × Each (Stands v.problem) v.parts.peers

-- no peer has fallen
abbrev pub AreStanding : List PeerView → Type 0
AreStanding vs = (q : ℕ) → q < length vs → (peer_at vs q).fallen ≡ false

-- ---- choices

abbrev pub MayTurn : List PeerView → ℕ → Type 0
MayTurn vs q = (q < length vs) × ((peer_at vs q).local.verdict ≡ None)

-- in range, and that peer has no verdict
abbrev pub MayStep : Parts → Choice → Type 0
MayStep v (Turn q) = MayTurn v.peers q
MayStep v (Deliver k) = (k < length v.travelling) × ((l : Letter) → slice_get v.travelling k ≡ Some l → (peer_at v.peers l.to).local.verdict ≡ None)

-- a peer that may have a turn
pub record MayTake (vs : List PeerView) (q : ℕ) : Type 0 where
  pub place : q < length vs
  pub standing : (peer_at vs q).fallen ≡ false
  pub taken : (peer_at vs q).outgoing ≡ []
  pub running : (peer_at vs q).local.verdict ≡ None

-- and one that may get a letter
pub record MayGive (vs : List PeerView) (l : Letter) : Type 0 where
  pub place : l.to < length vs
  pub standing : (peer_at vs l.to).fallen ≡ false
  pub running : (peer_at vs l.to).local.verdict ≡ None
  pub mine : l.to ≡ (peer_at vs l.to).local.me

abbrev pub MayGiveAt : List PeerView → List Letter → ℕ → Type 0
MayGiveAt vs ls k = (l : Letter) → slice_get ls k ≡ Some l → MayGive vs l

abbrev pub MayDo : Parts → Choice → Type 0
MayDo v (Turn q) = MayTake v.peers q
MayDo v (Deliver k) = (k < length v.travelling) × MayGiveAt v.peers v.travelling k

-- ---- what one peer does

abbrev pub with_local : PeerView → Local → PeerView
with_local v s = record { problem = v.problem; local = s; outgoing = v.outgoing; fallen = v.fallen }

-- one event of the peer, and its letters
pub record TurnsPeer (q : ℕ) (vs ws : List PeerView) (letters : List Letter) : Type 0 where
  pub next : Local
  pub turn : IsTurn plain (peer_at vs q).problem (peer_at vs q).local next letters
  pub peers : ws ≡ slice_set vs q (with_local (peer_at vs q) next)

-- the peer falls
pub record FallsPeer (q : ℕ) (vs ws : List PeerView) : Type 0 where
  pub fallen : PeerView
  pub falls : IsFallen (peer_at vs q) fallen
  pub peers : ws ≡ slice_set vs q fallen

-- the peer of a letter receives it
pub record ReceivesPeer (l : Letter) (vs ws : List PeerView) : Type 0 where
  pub next : Local
  pub receives : HasReceived plain (peer_at vs l.to).problem (peer_at vs l.to).local next l
  pub peers : ws ≡ slice_set vs l.to (with_local (peer_at vs l.to) next)

-- ---- what a choice does

-- a turn made an event, and the order lists its peer
pub record TurnMade (q : ℕ) (v w : Parts) (letters : List Letter) : Type 0 where
  pub made : TurnsPeer q v.peers w.peers letters
  pub order : w.order ≡ v.order ++ q ∷ []
  pub few : length v.order < 2 ^ 62

-- a letter was received, and the order lists its peer
pub record DeliveryMade (l : Letter) (v w : Parts) : Type 0 where
  pub made : ReceivesPeer l v.peers w.peers
  pub order : w.order ≡ v.order ++ l.to ∷ []
  pub few : length v.order < 2 ^ 62

abbrev pub TurnDone : ℕ → Parts → Parts → Turned → Type 0
TurnDone q v w Did = (letters : List Letter) × TurnMade q v w letters × (w.travelling ≡ v.travelling ++ letters)
TurnDone q v w Idle = IsIdle (peer_at v.peers q).local × (w ≡ v)

pub record DeliveryDone (k : ℕ) (v w : Parts) : Type 0 where
  pub letter : Letter
  pub there : slice_get v.travelling k ≡ Some letter
  pub made : DeliveryMade letter v w
  pub travelling : w.travelling ≡ remove v.travelling k

abbrev pub DeliveryDid : ℕ → Parts → Parts → Turned → Type 0
DeliveryDid k v w Did = DeliveryDone k v w
DeliveryDid k v w Idle = ⊥

-- what was chosen is done
abbrev pub StepsTo : Parts → Choice → Parts → Turned → Type 0
StepsTo v (Turn q) w t = TurnDone q v w t
StepsTo v (Deliver k) w t = DeliveryDid k v w t

-- want of memory before the event
pub record Before (v w : Parts) : Type 0 where
  pub peers : w.peers ≡ v.peers
  pub order : w.order ≡ v.order

-- or in it
pub record Within (q : ℕ) (v w : Parts) : Type 0 where
  pub falls : FallsPeer q v.peers w.peers
  pub order : w.order ≡ v.order

-- or after it
abbrev pub TurnBroke : ℕ → Parts → Parts → Type 0
TurnBroke q v w = Before v w ⊎ (Within q v w ⊎ ((letters : List Letter) × TurnMade q v w letters))

abbrev pub DeliveryBroke : ℕ → Parts → Parts → Type 0
DeliveryBroke k v w = Before v w ⊎ ((l : Letter) × (slice_get v.travelling k ≡ Some l) × Within l.to v w)

abbrev pub Breaks : Parts → Choice → Parts → Type 0
Breaks v (Turn q) w = TurnBroke q v w
Breaks v (Deliver k) w = DeliveryBroke k v w

-- ---- the calls

-- peers as they start
abbrev pub ArePeers : Problem → ℕ → Policy → Limits → List PeerView → Type 0
ArePeers p n policy limits vs = (q : ℕ) → q < length vs → StartsAs p q n policy limits (peer_at vs q)

pub record StartsWorld (p : Problem) (n : ℕ) (policy : Policy) (limits : Limits) (v : WorldView) : Type 0 where
  pub starts : IsStart p policy limits (world_of v.parts)
  pub many : length v.parts.peers ≡ n
  pub order : v.parts.order ≡ []
  pub problem : v.problem ≡ p
  pub policy_is : v.policy ≡ policy
  pub limits_are : v.limits ≡ limits
  pub standing : v.fallen ≡ false

abbrev pub with_parts : WorldView → Parts → Bool → WorldView
with_parts v w b = record { problem = v.problem; policy = v.policy; limits = v.limits; parts = w; fallen = b }

-- what was chosen was done, and nothing else changed
pub record Steps (v w : WorldView) (choice : Choice) (t : Turned) : Type 0 where
  pub done : StepsTo v.parts choice w.parts t
  pub rest : w ≡ with_parts v w.parts false

-- the world has fallen, and is of the same problem, policy and limits
abbrev pub HasFallen : WorldView → WorldView → Type 0
HasFallen v w = w ≡ with_parts v w.parts true

-- want of memory in a step
pub record Broke (v w : WorldView) (choice : Choice) : Type 0 where
  pub breaks : Breaks v.parts choice w.parts
  pub rest : HasFallen v w
