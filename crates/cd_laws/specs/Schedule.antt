-- What falls at each choice of a schedule.
-- Beyond the headline: no clause of `prove` reaches this file.
use Rattle.std.specs.Prelude.{Bool, List, None, Option, Some, [], cond, false, length, map, nat_lt, suc, true, ℕ, ◌&&◌, ◌*◌, ◌+◌, ◌-◌, ◌<◌, ◌==◌, ◌∷◌, ◌≡◌, ◌≤◌, ◌⊎◌}
use Rattle.cd_kbo.specs.declared.order.Order.{Order}
use Rattle.cd_laws.specs.Closing.{IsDead, sums}
use Rattle.cd_laws.specs.Measure.{Lower, names_left, third, units_left}
use Rattle.cd_laws.specs.Premises.{Premises}
use Rattle.cd_ledger.specs.declared.events.Act.TheVariants.{Declare}
use Rattle.cd_ledger.specs.declared.events.Event.{Event}
use Rattle.cd_ledger.specs.declared.letters.Body.{Body}
use Rattle.cd_ledger.specs.declared.letters.Letter.{Letter}
use Rattle.cd_ledger.specs.declared.local.Limits.{Limits}
use Rattle.cd_ledger.specs.declared.local.Local.{Local}
use Rattle.cd_list.specs.Lists.{tally}
use Rattle.cd_machine.specs.Events.{is_token, no_token}
use Rattle.cd_machine.specs.Schedule.{IsOther, IsPick, IsRunning, IsTokenThere, Row, token_choice}
use Rattle.cd_machine.specs.World.{IsStart, Run, World, at}
use Rattle.cd_names.specs.declared.ownership.Policy.{Policy}
use Rattle.cd_names.specs.declared.waves.Count.{Count}
use Rattle.cd_names.specs.declared.waves.Token.{Token}
use Rattle.cd_read.specs.declared.problem.Problem.{Problem}
use Rattle.cd_ledger.specs.declared.letters.Body.TheVariants as body

-- the same counts
abbrev pub count_eq : Count → Count → Bool
count_eq c d = (c.sent == d.sent) && (c.received == d.received)

-- the entries are the counts that the peers have now
abbrev pub fresh : List Count → List Count → Bool
fresh cs [] = true
fresh [] (t ∷ ts) = false
fresh (c ∷ cs) (t ∷ ts) = count_eq c t && fresh cs ts

-- the counts of all peers
abbrev pub counts_of : World → List Count
counts_of w = map (λ s. s.count) w.locals

-- how often it is passed at most
abbrev pub hops : ℕ → List Count → Token → ℕ
hops n cs t = cond (nat_lt (length t.one) n)
    (((n - length t.one) + n) + cond (fresh cs t.one) 0 n)
    ((n - length t.two) + cond (fresh cs t.two) (cond (fresh cs t.one) 0 n) (n + n))

-- each passing is a Pass, a Receive and an Admit
abbrev pub far_body : ℕ → List Count → ℕ → Body → ℕ
far_body n cs k (body.Kept r) = 0
far_body n cs k (body.Notice of by h) = 0
far_body n cs k (body.Token t) = 3 * hops n cs t + k

-- of the tokens among some letters
abbrev pub far_letters : ℕ → List Count → ℕ → List Letter → ℕ
far_letters n cs k [] = 0
far_letters n cs k (l ∷ ls) = far_body n cs k l.body + far_letters n cs k ls

-- of a token that is held
abbrev pub far_held : ℕ → List Count → Option Token → ℕ
far_held n cs None = 0
far_held n cs (Some t) = 3 * hops n cs t

-- of the tokens of a peer
abbrev pub far_at : ℕ → List Count → Local → ℕ
far_at n cs s = far_held n cs s.token + far_letters n cs 1 s.waiting

-- how far the token is from a Declare
abbrev pub far : World → ℕ
far w = sums (far_at (length w.locals) (counts_of w)) w.locals + far_letters (length w.locals) (counts_of w) 2 w.travelling

-- the measure is as it was
abbrev pub Same : World → World → Type 0
Same v w = (sums units_left v.locals ≡ sums units_left w.locals) × (sums names_left v.locals ≡ sums names_left w.locals) × (third v ≡ third w)

-- how many token choices may still come while another choice is there
abbrev pub room : ℕ → World → ℕ
room c w = 4 * length w.locals - c

-- the measure, the room, and the way of the token, compared in turn
abbrev pub Sinks : ℕ → World → ℕ → World → Type 0
Sinks d v c w = Lower v w ⊎ (Same v w × ((room d v < room c w) ⊎ ((room d v ≡ room c w) × (far v < far w))))

-- what holds of the choices at a moment
pub record IsSchedule (order : Order) (p : Problem) (w : World) : Type 0 where
  -- a token choice leaves the measure as it was
  pub leaves : (c d : ℕ) (e : Event) (v : World) → IsPick order p c w e d v → token_choice (at w e.peer) e.act ≡ true → Same v w
  -- any other sets a verdict or lowers it
  pub lowers : (c d : ℕ) (e : Event) (v : World) → IsPick order p c w e d v → token_choice (at w e.peer) e.act ≡ false → ((at v e.peer).verdict ≡ None → ⊥) ⊎ Lower v w
  -- at most four token choices per peer in a row while another choice is there
  pub few : (k c d b : ℕ) (v u : World) (e : Event) → Row order p k c w d v → IsPick order p d v e b u → token_choice (at v e.peer) e.act ≡ true → IsOther v → k < 4 * length w.locals
  -- where no letter but the token travels, at most twelve per peer in a row
  pub dozen : (k c d : ℕ) (v : World) → Row order p k c w d v → tally no_token w.travelling ≡ 0 → k ≤ 12 * length w.locals
  -- without another choice there is a token choice
  pub there : (IsOther w → ⊥) → IsTokenThere w
  -- without another choice, and with no token waiting, all is still
  pub still : IsRunning w → (IsOther w → ⊥) → ((q : ℕ) → q < length w.locals → tally is_token (at w q).waiting ≡ 0) → IsDead w
  -- it stays so through token choices
  pub dead : (k c d : ℕ) (v : World) → Row order p k c w d v → IsDead w → IsDead v
  -- and then every other choice is a Declare
  pub declares : (c d : ℕ) (e : Event) (v : World) → IsDead w → IsPick order p c w e d v → token_choice (at w e.peer) e.act ≡ false → e.act ≡ Declare
  -- every choice sets a verdict or sinks
  pub sinks : (c d : ℕ) (e : Event) (v : World) → IsPick order p c w e d v → ((at v e.peer).verdict ≡ None → ⊥) ⊎ Sinks d v c w

-- at every moment of every run without a verdict
abbrev pub RunsSchedule : Order → Type 0
RunsSchedule order = Premises order → (p : Problem) (policy : Policy) (limits : Limits) (start w : World) (events : List Event) → IsStart p policy limits start → Run order p start events w → IsRunning w → IsSchedule order p w

-- no schedule goes on for ever
abbrev pub SchedulesEnd : Order → Type 0
SchedulesEnd order = Premises order → (p : Problem) (policy : Policy) (limits : Limits) (start : World) (events : List Event) (counters : ℕ → ℕ) (worlds : ℕ → World) (picks : ℕ → Event)
    → IsStart p policy limits start → Run order p start events (worlds 0) → ((k : ℕ) → IsPick order p (counters k) (worlds k) (picks k) (counters (suc k)) (worlds (suc k))) → ⊥
