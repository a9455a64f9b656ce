-- What the token knows, and the end of a run by Declare.
-- Beyond the headline: no clause of `prove` reaches this file.
use Rattle.std.specs.List.{AllByRecursion as Each, list_any}
use Rattle.std.specs.Prelude.{Bool, List, None, Option, Some, [], false, if◌then◌else◌, length, nat_lt, suc, true, zero, ℕ, ◌&&◌, ◌+◌, ◌<◌, ◌∷◌, ◌≡◌, ◌≢◌, ◌≤◌}
use Rattle.cd_kbo.specs.declared.order.Order.{Order}
use Rattle.cd_laws.specs.Premises.{Premises}
use Rattle.cd_ledger.specs.Records.{Registry}
use Rattle.cd_ledger.specs.declared.events.Act.TheVariants.{Declare}
use Rattle.cd_ledger.specs.declared.events.Event.{Event}
use Rattle.cd_ledger.specs.declared.events.Verdict.TheVariants.{Saturated}
use Rattle.cd_ledger.specs.declared.letters.Body.{Body}
use Rattle.cd_ledger.specs.declared.local.Limits.{Limits}
use Rattle.cd_ledger.specs.declared.local.Local.{Local}
use Rattle.cd_ledger.specs.declared.records.Record.{Record}
use Rattle.cd_list.specs.Lists.{tally}
use Rattle.cd_machine.specs.Carried.{IsClosed}
use Rattle.cd_machine.specs.Events.{no_token}
use Rattle.cd_machine.specs.Fits.{is_ready}
use Rattle.cd_machine.specs.Spread.{record_of}
use Rattle.cd_machine.specs.Tokens.{received_sum, sent_sum}
use Rattle.cd_machine.specs.World.{IsStart, Run, World, WorldStep, at}
use Rattle.cd_names.specs.Names.{name_eq}
use Rattle.cd_names.specs.declared.names.Name.{Name}
use Rattle.cd_names.specs.declared.ownership.Policy.{Policy}
use Rattle.cd_names.specs.declared.waves.Count.{Count}
use Rattle.cd_names.specs.declared.waves.Token.{Token}
use Rattle.cd_read.specs.declared.problem.Problem.{Problem}
use Rattle.cd_ledger.specs.declared.letters.Body.TheVariants as body

-- quiet, apart from token letters, and without a verdict
pub record IsStill (s : Local) : Type 0 where
  pub pending : s.pending ≡ []
  pub owed : s.owed ≡ []
  pub waiting : Each (λ l. (no_token l && is_ready s.known l) ≡ false) s.waiting
  pub running : s.verdict ≡ None

-- an entry is a count that its peer had while it was still; the peer that has received no letter since then is still, and has sent none
pub record IsEntry (s : Local) (c : Count) : Type 0 where
  pub received : c.received ≤ s.count.received
  pub sent : c.sent ≤ s.count.sent
  pub still : c.received ≡ s.count.received → IsStill s × (c.sent ≡ s.count.sent)

-- entries of the peers from k on
abbrev pub AreEntries : World → ℕ → List Count → Type 0
AreEntries w k [] = Unit {0}
AreEntries w k (c ∷ cs) = IsEntry (at w k) c × AreEntries w (k + 1) cs

-- a sum over some peers
abbrev pub sums : (Local → ℕ) → List Local → ℕ
sums f [] = 0
sums f (s ∷ ss) = f s + sums f ss

-- the letters that a peer sent
abbrev pub sent_of : Local → ℕ
sent_of s = s.count.sent

-- and received
abbrev pub received_of : Local → ℕ
received_of s = s.count.received

-- the sum over the peers from k on
abbrev pub sums_from : (Local → ℕ) → ℕ → List Local → ℕ
sums_from f zero ss = sums f ss
sums_from f (suc k) [] = 0
sums_from f (suc k) (s ∷ ss) = sums_from f k ss

-- every letter but the token that was sent and not received travels
abbrev pub Flows : World → Type 0
Flows w = sums sent_of w.locals ≡ sums received_of w.locals + tally no_token w.travelling

-- every peer is still, and no letter but the token travels
pub record IsDead (w : World) : Type 0 where
  pub still : (q : ℕ) → q < length w.locals → IsStill (at w q)
  pub travelling : tally no_token w.travelling ≡ 0

-- whose turn it is to have the token
abbrev pub place_of : ℕ → Token → ℕ
place_of n t = if nat_lt (length t.one) n then length t.one else (if nat_lt (length t.two) n then length t.two else 0)

-- the token, at peer q or on its way there
pub record TokenFits (w : World) (q : ℕ) (t : Token) : Type 0 where
  pub place : q ≡ place_of (length w.locals) t
  pub one : AreEntries w 0 t.one
  pub two : AreEntries w 0 t.two
  pub first : length t.one < length w.locals → t.two ≡ []
  pub bound : ℕ
  pub second : length t.one ≡ length w.locals → (received_sum t.one ≤ bound) × (bound ≤ sent_sum t.two + sums_from sent_of (length t.two) w.locals) × (received_sum t.one ≡ bound → IsDead w)

-- a token that is held fits
abbrev pub HeldFits : World → ℕ → Option Token → Type 0
HeldFits w q None = Unit {0}
HeldFits w q (Some t) = TokenFits w q t

-- and one in a letter
abbrev pub BodyFits : World → ℕ → Body → Type 0
BodyFits w q (body.Kept r) = Unit {0}
BodyFits w q (body.Notice of by h) = Unit {0}
BodyFits w q (body.Token t) = TokenFits w q t

-- names, newest first: each record cites older ones
abbrev pub has : List Name → Name → Bool
has ns n = list_any (λ m. name_eq m n) ns

-- each record cites older names
abbrev pub IsOrdered : Registry → List Name → Type 0
IsOrdered R [] = Unit {0}
IsOrdered R (n ∷ older) = (r : Record) × (R n ≡ Some r) × Each (λ m. has older m ≡ true) r.cites × IsOrdered R older

-- what every event but a Declare keeps of the token and the counts
pub record IsWaving (w : World) : Type 0 where
  pub flows : Flows w
  pub held : (q : ℕ) → q < length w.locals → HeldFits w q (at w q).token
  pub waiting : (q : ℕ) → q < length w.locals → Each (λ l. BodyFits w q l.body) (at w q).waiting
  pub travelling : Each (λ l. BodyFits w l.to l.body) w.travelling
  pub names : List Name
  pub ordered : IsOrdered (record_of w) names
  pub all : (n : Name) (r : Record) → record_of w n ≡ Some r → has names n ≡ true

-- the end by Declare: closed, peer 0 has the verdict, no other has one, and no event follows
pub record IsDeclared (order : Order) (p : Problem) (w : World) : Type 0 where
  pub closed : IsClosed w
  pub first : (at w 0).verdict ≡ Some Saturated
  pub others : (q : ℕ) → q < length w.locals → q ≢ 0 → (at w q).verdict ≡ None
  pub ends : (e : Event) (v : World) → WorldStep order p w e v → ⊥

-- a Declare in a run is its last event, and leads to such a world
abbrev pub RunsEndDeclared : Order → Type 0
RunsEndDeclared order = Premises order → (p : Problem) (policy : Policy) (limits : Limits) (start w v : World) (front : List Event) (e : Event) → IsStart p policy limits start
    → Run order p start front w → WorldStep order p w e v → e.act ≡ Declare → IsDeclared order p v
