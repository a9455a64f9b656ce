-- Schedules: which choices there are at a moment, which of them only move the token, and how a counter leaves those out.
-- Beyond the headline: no clause of `prove` reaches is_more, is_token_only, token_choice, IsOther, IsTokenThere,
--   IsPick, Row.
use Rattle.std.specs.Prelude.{Bool, List, None, Option, Some, [], cond, false, find, length, not, suc, true, zero, ℕ, ◌&&◌, ◌*◌, ◌+◌, ◌<◌, ◌==◌, ◌||◌, ◌∷◌, ◌≡◌, ◌≤◌, ◌⊎◌}
use Rattle.cd_kbo.specs.declared.order.Order.{Order}
use Rattle.cd_ledger.specs.declared.events.Act.{Act}
use Rattle.cd_ledger.specs.declared.events.Act.TheVariants.{Admit, Declare, End, Keep, Pass, Receive, Reject, Rewrite, Work}
use Rattle.cd_ledger.specs.declared.events.Event.{Event}
use Rattle.cd_ledger.specs.declared.letters.Letter.{Letter}
use Rattle.cd_ledger.specs.declared.local.Local.{Local}
use Rattle.cd_list.specs.Lists.{tally}
use Rattle.cd_machine.specs.Events.{is_token, no_token}
use Rattle.cd_machine.specs.Fits.{is_ready}
use Rattle.cd_machine.specs.Tokens.{wave_closed}
use Rattle.cd_machine.specs.Turns.{IsFirstAct}
use Rattle.cd_machine.specs.World.{World, WorldStep, at}
use Rattle.cd_names.specs.declared.waves.Token.{Token}
use Rattle.cd_read.specs.declared.problem.Problem.{Problem}

-- a list isn't empty
abbrev pub is_cons : {A : Type 0} → List A → Bool
is_cons [] = false
is_cons (x ∷ xs) = true

-- something is pending or owed
abbrev pub has_work : Local → Bool
has_work s = is_cons s.pending || is_cons s.owed

-- the holder of the token may declare
abbrev pub may_declare : Local → Token → Bool
may_declare s t = (s.me == 0) && wave_closed s.peers t

-- a held token leads to a Declare
abbrev pub held_declares : Local → Option Token → Bool
held_declares s None = false
held_declares s (Some t) = may_declare s t

-- or is passed on
abbrev pub held_passes : Local → Option Token → Bool
held_passes s None = false
held_passes s (Some t) = not (may_declare s t)

-- where this letter is the first that is ready, or none is, the turn is more than a move of the token
abbrev pub more_by : Local → Option Letter → Bool
more_by s (Some l) = not (is_token l)
more_by s None = has_work s || held_declares s s.token

-- the turn only moves the token
abbrev pub only_by : Local → Option Letter → Bool
only_by s (Some l) = is_token l
only_by s None = not (has_work s) && held_passes s s.token

-- the first waiting letter that is ready
abbrev pub first_letter : Local → Option Letter
first_letter s = find (is_ready s.known) s.waiting

-- ready is More: the turn would be more than passing or admitting the token
abbrev pub is_more : Local → Bool
is_more s = more_by s (first_letter s)

-- ready is TokenOnly
abbrev pub is_token_only : Local → Bool
is_token_only s = only_by s (first_letter s)

-- the event of a turn, or of a delivery
abbrev pub IsChosen : Order → Local → Act → Type 0
IsChosen order s (Rewrite k) = IsFirstAct order s (Rewrite k)
IsChosen order s (Keep k) = IsFirstAct order s (Keep k)
IsChosen order s (Receive l) = Unit {0}
IsChosen order s (Admit k) = IsFirstAct order s (Admit k)
IsChosen order s (Reject k) = IsFirstAct order s (Reject k)
IsChosen order s (Work t) = IsFirstAct order s (Work t)
IsChosen order s Pass = IsFirstAct order s Pass
IsChosen order s Declare = IsFirstAct order s Declare
IsChosen order s (End v) = IsFirstAct order s (End v)

-- whether the choice that the event comes from is a token choice: a turn of a peer that is TokenOnly, or a token's delivery
abbrev pub token_choice : Local → Act → Bool
token_choice s (Rewrite k) = is_token_only s
token_choice s (Keep k) = is_token_only s
token_choice s (Receive l) = is_token l
token_choice s (Admit k) = is_token_only s
token_choice s (Reject k) = is_token_only s
token_choice s (Work t) = is_token_only s
token_choice s Pass = is_token_only s
token_choice s Declare = is_token_only s
token_choice s (End v) = is_token_only s

-- a choice that isn't a token choice is there
abbrev pub IsOther : World → Type 0
IsOther w = ((q : ℕ) × (q < length w.locals) × (is_more (at w q) ≡ true)) ⊎ (0 < tally no_token w.travelling)

-- a token choice is there
abbrev pub IsTokenThere : World → Type 0
IsTokenThere w = ((q : ℕ) × (q < length w.locals) × (is_token_only (at w q) ≡ true)) ⊎ (0 < tally is_token w.travelling)

-- no peer has a verdict
abbrev pub IsRunning : World → Type 0
IsRunning w = (q : ℕ) → q < length w.locals → (at w q).verdict ≡ None

-- one choice of the schedule, with the counter before and after it
pub record IsPick (order : Order) (p : Problem) (c : ℕ) (w : World) (e : Event) (d : ℕ) (v : World) : Type 0 where
  pub running : IsRunning w
  pub step : WorldStep order p w e v
  pub chosen : IsChosen order (at w e.peer) e.act
  pub left_out : token_choice (at w e.peer) e.act ≡ true → 4 * length w.locals ≤ c → IsOther w → ⊥
  pub counter : d ≡ cond (token_choice (at w e.peer) e.act) (c + 1) 0

-- k token choices in a row
abbrev pub Row : Order → Problem → ℕ → ℕ → World → ℕ → World → Type 0
Row order p zero c w d v = (d ≡ c) × (v ≡ w)
Row order p (suc k) c w d v = (e : Event) × (b : ℕ) × (u : World) × IsPick order p c w e b u × (token_choice (at w e.peer) e.act ≡ true) × Row order p k b u d v
