-- The generator, the choices at a moment, and the stated schedule.
-- Beyond the headline: no clause of `prove` reaches InRange, IsOffer, moment_of, Picks, VerdictTest, RunsScheduled,
--   Going.
use Rattle.std.specs.Prelude.{◌≡◌, ◌≢◌, ℕ, ◌+◌, ◌*◌, ◌/◌, ◌%◌, ◌^◌, ◌<◌, ◌≤◌, nat_le, Bool, true, false, ◌&&◌, ◌||◌, not, cond, List, [], ◌∷◌, ◌++◌, length, map, remove, slice_get, Option, Some, None}
use Rattle.cd_kbo.specs.declared.order.Order.{Order}
use Rattle.cd_ledger.specs.declared.events.Act.TheVariants.{Receive}
use Rattle.cd_ledger.specs.declared.events.Event.{Event}
use Rattle.cd_ledger.specs.declared.letters.Letter.{Letter}
use Rattle.cd_ledger.specs.declared.local.Local.{Local}
use Rattle.cd_machine.specs.Events.{is_token}
use Rattle.cd_machine.specs.Schedule.{IsRunning, is_cons}
use Rattle.cd_machine.specs.Turns.{IsFirstAct}
use Rattle.cd_machine.specs.World.{World, WorldStep, at}
use Rattle.cd_peer.specs.Peers.{PeerView}
use Rattle.cd_peer.specs.Plain.{plain}
use Rattle.cd_peer.specs.Readiness.{ready_of}
use Rattle.cd_peer.specs.declared.readiness.Ready.{Ready}
use Rattle.cd_peer.specs.declared.readiness.Ready.TheVariants.{More, Nothing, TokenOnly}
use Rattle.cd_read.specs.declared.problem.Problem.{Problem}
use Rattle.cd_recorded.specs.Recorded.{peer_of}
use Rattle.cd_world.specs.Worlds.{WorldView, locals_of, peer_at, with_parts, world_of}
use Rattle.cd_world.specs.declared.choosing.Offer.{Offer}
use Rattle.cd_world.specs.declared.moving.Choice.{Choice}
use Rattle.cd_world.specs.declared.moving.Choice.TheVariants.{Turn, Deliver}

-- ---- the generator: a draw goes to the next state and gives its upper bits

abbrev pub next_state : ℕ → ℕ
next_state x = (6364136223846793005 * x + 1442695040888963407) % 2 ^ 64

abbrev pub drawn : ℕ → ℕ
drawn x = x / 2 ^ 33

-- ---- the choices, with or without those of the token

-- a turn is a choice where it would do something
abbrev pub busy_by : Bool → Ready → Bool
busy_by tokens Nothing = false
busy_by tokens TokenOnly = tokens
busy_by tokens More = true

abbrev pub turn_if : Bool → ℕ → Local → List Choice
turn_if tokens q s = cond (busy_by tokens (ready_of s)) (Turn q ∷ []) []

-- the turns of the peers from q on
abbrev pub turns_from : Bool → ℕ → List Local → List Choice
turns_from tokens q [] = []
turns_from tokens q (s ∷ ss) = turn_if tokens q s ++ turns_from tokens (q + 1) ss

abbrev pub deliver_if : Bool → ℕ → Letter → List Choice
deliver_if tokens k l = cond (tokens || not (is_token l)) (Deliver k ∷ []) []

-- the deliveries from place k on
abbrev pub deliveries_from : Bool → ℕ → List Letter → List Choice
deliveries_from tokens k [] = []
deliveries_from tokens k (l ∷ ls) = deliver_if tokens k l ++ deliveries_from tokens (k + 1) ls

-- turns in the order of peers, then deliveries in the order of places
abbrev pub choices : Bool → World → List Choice
choices tokens w = turns_from tokens 0 w.locals ++ deliveries_from tokens 0 w.travelling

-- whether token choices are left out: the counter is at least four times the number of peers, and others are there
abbrev pub leaves_out : ℕ → World → Bool
leaves_out c w = nat_le (4 * length w.locals) c && is_cons (choices false w)

abbrev pub offered : ℕ → World → List Choice
offered c w = cond (leaves_out c w) (choices false w) (choices true w)

-- a turn that only moves the token
abbrev pub is_only : Ready → Bool
is_only Nothing = false
is_only TokenOnly = true
is_only More = false

abbrev pub is_token_at : Option Letter → Bool
is_token_at None = false
is_token_at (Some l) = is_token l

abbrev pub is_token_choice : World → Choice → Bool
is_token_choice w (Turn q) = is_only (ready_of (at w q))
is_token_choice w (Deliver k) = is_token_at (slice_get w.travelling k)

-- ---- draws

-- the generator's state and the counter of token choices in a row, beside the world
pub record Moment : Type 0 where
  pub state : ℕ
  pub counter : ℕ
  pub world : World

-- the event that a choice makes: the first of the peer's turn, or the receipt of the letter at the place
abbrev pub MakesEvent : Order → World → Choice → Event → World → Type 0
MakesEvent order w (Turn q) e v = (e.peer ≡ q) × IsFirstAct order (at w q) e.act
MakesEvent order w (Deliver k) e v = (l : Letter) × (slice_get w.travelling k ≡ Some l) × (e.peer ≡ l.to) × (e.act ≡ Receive l) × (v.travelling ≡ remove w.travelling k)

-- the choice that a number of the generator names among those that are offered
abbrev pub IsDrawnFrom : ℕ → World → ℕ → Choice → Type 0
IsDrawnFrom c w x choice = slice_get (offered c w) (drawn x % length (offered c w)) ≡ Some choice

abbrev pub IsDrawn : Moment → ℕ → Choice → Type 0
IsDrawn m x choice = IsDrawnFrom m.counter m.world x choice

-- another token choice in a row, or none
abbrev pub counted_by : Moment → Choice → ℕ
counted_by m choice = cond (is_token_choice m.world choice) (m.counter + 1) 0

-- one draw, while no peer has a verdict: the choice that the generator's number names, and its event
pub record IsDraw (order : Order) (p : Problem) (m : Moment) (e : Event) (n : Moment) : Type 0 where
  pub running : IsRunning m.world
  pub state : n.state ≡ next_state m.state
  pub choice : Choice
  pub drawn_is : IsDrawn m n.state choice
  pub step : WorldStep order p m.world e n.world
  pub makes : MakesEvent order m.world choice e n.world
  pub counter : n.counter ≡ counted_by m choice

-- draws one after another
abbrev pub Draws : Order → Problem → Moment → List Event → Moment → Type 0
Draws order p m [] n = n ≡ m
Draws order p m (e ∷ es) n = (k : Moment) × IsDraw order p m e k × Draws order p k es n

abbrev pub HasVerdict : World → Type 0
HasVerdict w = (q : ℕ) × (q < length w.locals) × ((at w q).verdict ≢ None)

-- the run of the stated schedule from a world: draws up to the first verdict
pub record Scheduled (order : Order) (p : Problem) (seed : ℕ) (start : World) (events : List Event) (end : World) : Type 0 where
  pub last : Moment
  pub draws : Draws order p (record { state = seed; counter = 0; world = start }) events last
  pub ends : last.world ≡ end
  pub verdict : HasVerdict end

-- ---- the calls

abbrev pub InRange : List PeerView → List Letter → Choice → Type 0
InRange vs ls (Turn q) = q < length vs
InRange vs ls (Deliver k) = k < length ls

-- the choices that are offered, counted
pub record IsOffer (c : ℕ) (vs : List PeerView) (ls : List Letter) (o : Offer) : Type 0 where
  pub choices_are : offered c (record { locals = locals_of vs; travelling = ls }) ≡ turns_from o.tokens 0 (locals_of vs) ++ deliveries_from o.tokens 0 ls
  pub turns : o.turns ≡ length (turns_from o.tokens 0 (locals_of vs))
  pub deliveries : o.deliveries ≡ length (deliveries_from o.tokens 0 ls)
  pub few_turns : o.turns ≤ length vs
  pub few_deliveries : o.deliveries ≤ length ls

abbrev pub moment_of : ℕ → ℕ → WorldView → Moment
moment_of x c v = record { state = x; counter = c; world = world_of v.parts }

-- one draw was done, and the order lists its event
pub record Picks (v w : WorldView) (x y c d : ℕ) : Type 0 where
  pub event : Event
  pub draw : IsDraw plain v.problem (moment_of x c v) event (moment_of y d w)
  pub few : length v.parts.order < 2 ^ 62
  pub order : w.parts.order ≡ v.parts.order ++ event.peer ∷ []
  pub rest : w ≡ with_parts v w.parts false

-- some peer has a verdict, or none has
abbrev pub VerdictTest : Bool → List PeerView → Type 0
VerdictTest true vs = HasVerdict (record { locals = locals_of vs; travelling = [] })
VerdictTest false vs = (q : ℕ) → q < length vs → (peer_at vs q).local.verdict ≡ None

-- the stated schedule was run to its first verdict; the problem, the policy and the limits stay
pub record RunsScheduled (v w : WorldView) (seed : ℕ) : Type 0 where
  pub events : List Event
  pub scheduled : Scheduled plain v.problem seed (world_of v.parts) events (world_of w.parts)
  pub order : w.parts.order ≡ v.parts.order ++ map peer_of events
  pub rest : w ≡ with_parts v w.parts false

-- the schedule is being run: the draws so far
pub record Going (v w : WorldView) (seed x c : ℕ) : Type 0 where
  pub events : List Event
  pub draws : Draws plain v.problem (moment_of seed 0 v) events (moment_of x c w)
  pub order : w.parts.order ≡ v.parts.order ++ map peer_of events
  pub counted : c ≤ length w.parts.order
  pub rest : w ≡ with_parts v w.parts false
