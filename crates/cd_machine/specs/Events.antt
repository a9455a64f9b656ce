-- What an event leaves and sends, given what was found for it; and the clock.
-- Beyond the headline: no clause of `prove` reaches no_token.
use Rattle.std.specs.Prelude.{Bool, List, Option, Some, [], cond, false, if◌then◌else◌, max, min, nat_lt, not, true, ℕ, ◌++◌, ◌+◌, ◌-◌, ◌^◌, ◌∷◌}
use Rattle.cd_contract.specs.declared.held.Hit.{Hit}
use Rattle.cd_ledger.specs.declared.events.Act.{Act}
use Rattle.cd_ledger.specs.declared.events.Act.TheVariants.{Admit, Declare, End, Keep, Pass, Receive, Reject, Rewrite, Work}
use Rattle.cd_ledger.specs.declared.events.Event.{Event}
use Rattle.cd_ledger.specs.declared.events.Verdict.TheVariants.{Saturated}
use Rattle.cd_ledger.specs.declared.items.Item.{Item}
use Rattle.cd_ledger.specs.declared.items.Outcome.{Outcome}
use Rattle.cd_ledger.specs.declared.letters.Body.{Body}
use Rattle.cd_ledger.specs.declared.letters.Letter.{Letter}
use Rattle.cd_ledger.specs.declared.local.Local.{Local}
use Rattle.cd_ledger.specs.declared.records.Known.{Known}
use Rattle.cd_list.specs.Lists.{tally}
use Rattle.cd_machine.specs.Acts.{Rewritten, Yield, admitted_body, body_letters, keep_letters, kept, rewritten, unshelved, worked}
use Rattle.cd_machine.specs.Tokens.{passed_by, token_letters}
use Rattle.cd_names.specs.declared.How.{How}
use Rattle.cd_names.specs.declared.waves.Token.{Token}
use Rattle.cd_ledger.specs.declared.letters.Body.TheVariants as body

-- what settling an item finds: the item, its outcome, and what its record hits
pub record Keeping : Type 0 where
  pub item : Item
  pub outcome : Outcome
  pub hit : Known → Option How

-- what admitting a letter finds: the letter, what hits its record, and what its record hits
pub record Admitting : Type 0 where
  pub letter : Letter
  pub forward : Option Hit
  pub hit : Known → Option How

-- what an act finds
abbrev pub Found : Act → Type 0
Found (Rewrite place) = Rewritten
Found (Keep place) = Keeping
Found (Receive l) = Unit {0}
Found (Admit place) = Admitting
Found (Reject place) = Letter
Found (Work task) = Yield
Found Pass = Token
Found Declare = Token
Found (End verdict) = Unit {0}

-- the state after an act, but for clock, journal and counts
abbrev pub acted : Local → (act : Act) → Found act → Local
acted s (Rewrite place) f = rewritten s place f
acted s (Keep place) f = kept s place f.item f.outcome f.hit
acted s (Receive l) f = record s { waiting = s.waiting ++ l ∷ [] }
acted s (Admit place) f = admitted_body (unshelved s place) f.letter.body f.forward f.hit
acted s (Reject place) f = unshelved s place
acted s (Work task) f = worked s task f
acted s Pass f = passed_by s f
acted s Declare f = record s { verdict = Some Saturated }
acted s (End verdict) f = record s { verdict = Some verdict }

-- the letters of an act at a time
abbrev pub sent_by : Local → ℕ → (act : Act) → Found act → List Letter
sent_by s time (Rewrite place) f = []
sent_by s time (Keep place) f = keep_letters s time place f.item f.outcome f.hit
sent_by s time (Receive l) f = []
sent_by s time (Admit place) f = body_letters s time f.letter.body f.forward f.hit
sent_by s time (Reject place) f = []
sent_by s time (Work task) f = []
sent_by s time Pass f = token_letters s time f
sent_by s time Declare f = []
sent_by s time (End verdict) f = []

-- the letters of an event
abbrev pub sent : Local → (e : Event) → Found e.act → List Letter
sent s e f = sent_by s e.time e.act f

-- a letter is the token
abbrev pub is_token_body : Body → Bool
is_token_body (body.Kept r) = false
is_token_body (body.Notice of by h) = false
is_token_body (body.Token t) = true

abbrev pub is_token : Letter → Bool
is_token l = is_token_body l.body

-- the token isn't counted
abbrev pub receives : Act → ℕ
receives (Rewrite place) = 0
receives (Keep place) = 0
receives (Receive l) = cond (is_token l) 0 1
receives (Admit place) = 0
receives (Reject place) = 0
receives (Work task) = 0
receives Pass = 0
receives Declare = 0
receives (End verdict) = 0

-- the state after an event: clock, journal and counts are set here alone
abbrev pub after : Local → (e : Event) → Found e.act → Local
after s e f = record (acted s e.act f) {
  clock = e.time;
  journal = s.journal ++ e ∷ [];
  count = record { sent = s.count.sent + tally (λ l. not (is_token l)) (sent s e f); received = s.count.received + receives e.act };
}

-- the next time, which stops at the end of its type
abbrev pub tick : ℕ → ℕ
tick clock = min (clock + 1) (2 ^ 64 - 1)

-- a receipt lifts the clock to the letter's time, where that is below 2^63
abbrev pub clock_after : ℕ → Act → ℕ
clock_after c (Rewrite place) = tick c
clock_after c (Keep place) = tick c
clock_after c (Receive l) = if nat_lt l.time (2 ^ 63) then tick (max c l.time) else tick c
clock_after c (Admit place) = tick c
clock_after c (Reject place) = tick c
clock_after c (Work task) = tick c
clock_after c Pass = tick c
clock_after c Declare = tick c
clock_after c (End verdict) = tick c

-- a letter that is counted
abbrev pub no_token : Letter → Bool
no_token l = not (is_token l)
