-- An act that was done and entered is an event.
use Rattle.std.proofs.Common.{◌≡◌, ℕ, ◌+◌, List, [], ◌∷◌, ◌++◌, eqb, cond, true, false, refl, ap, sym, ◌∙◌}
use Rattle.std.specs.Prelude.{Option, Some, None}
use Rattle.cd_contract.specs.declared.held.Hit.{Hit}
use Rattle.cd_kbo.specs.declared.order.Order.{Order}
use Rattle.cd_ledger.specs.declared.events.Act.{Act}
use Rattle.cd_ledger.specs.declared.events.Act.TheVariants.{Admit, Declare, End, Keep, Pass, Receive, Reject, Rewrite, Work}
use Rattle.cd_ledger.specs.declared.events.Event.{Event}
use Rattle.cd_ledger.specs.declared.items.Item.{Item}
use Rattle.cd_ledger.specs.declared.items.Outcome.{Outcome}
use Rattle.cd_ledger.specs.declared.items.Outcome.TheVariants.{Named, Subsumed, Trivial}
use Rattle.cd_ledger.specs.declared.letters.Body.{Body}
use Rattle.cd_ledger.specs.declared.letters.Body.TheVariants as body
use Rattle.cd_ledger.specs.declared.letters.Letter.{Letter}
use Rattle.cd_ledger.specs.declared.local.Local.{Local}
use Rattle.cd_ledger.specs.declared.records.Known.{Known}
use Rattle.cd_list.specs.Lists.{tally}
use Rattle.cd_machine.specs.Acts.{admitted_body, kept, unshelved}
use Rattle.cd_machine.specs.Events.{Found, acted, clock_after, no_token, receives, sent, tick}
use Rattle.cd_machine.specs.Tokens.{passed}
use Rattle.cd_machine.specs.Turns.{IsFirstAct, IsTurn}
use Rattle.cd_names.specs.declared.How.{How}
use Rattle.cd_names.specs.declared.waves.Count.{Count}
use Rattle.cd_read.specs.declared.problem.Problem.{Problem}
use Rattle.cd_peer.specs.declared.making.Made.{Made}
use Rattle.cd_peer.specs.Turns.{HasReceived, MakesFirst, stamped}

-- an act leaves the count, the journal and this peer's number
abbrev SameFrame : Local → Local → Type 0
SameFrame s t = (t.count ≡ s.count) × (t.journal ≡ s.journal) × (t.me ≡ s.me)

kept_frame : (s : Local) (k : ℕ) (i : Item) (o : Outcome) (hit : Known → Option How) → SameFrame s (kept s k i o hit)
kept_frame s k i (Named n) hit = (refl, refl, refl)
kept_frame s k i Trivial hit = (refl, refl, refl)
kept_frame s k i (Subsumed d) hit = (refl, refl, refl)

body_frame : (s : Local) (b : Body) (f : Option Hit) (hit : Known → Option How) → SameFrame s (admitted_body s b f hit)
body_frame s (body.Kept r) None hit = (refl, refl, refl)
body_frame s (body.Kept r) (Some h) hit = (refl, refl, refl)
body_frame s (body.Notice a b w) f hit = (refl, refl, refl)
body_frame s (body.Token t) f hit = (refl, refl, refl)

acted_frame : (s : Local) (a : Act) (f : Found a) → SameFrame s (acted s a f)
acted_frame s (Rewrite k) f = (refl, refl, refl)
acted_frame s (Keep k) f = kept_frame s k f.item f.outcome f.hit
acted_frame s (Receive l) f = (refl, refl, refl)
acted_frame s (Admit k) f = body_frame (unshelved s k) f.letter.body f.forward f.hit
acted_frame s (Reject k) f = (refl, refl, refl)
acted_frame s (Work t) f = (refl, refl, refl)
acted_frame s Pass f = elim (eqb s.peers 1) as (λ b. SameFrame s (cond b (record s { token = Some (passed s.peers s.count f) }) (record s { token = None }))) [ true ↦ (refl, refl, refl) | false ↦ (refl, refl, refl) ]
acted_frame s Declare f = (refl, refl, refl)
acted_frame s (End v) f = (refl, refl, refl)

first_time : (order : Order) (s : Local) (a : Act) → IsFirstAct order s a → clock_after s.clock a ≡ tick s.clock
first_time order s (Rewrite k) h = refl
first_time order s (Keep k) h = refl
first_time order s (Receive l) h = absurd h
first_time order s (Admit k) h = refl
first_time order s (Reject k) h = refl
first_time order s (Work t) h = refl
first_time order s Pass h = refl
first_time order s Declare h = refl
first_time order s (End v) h = refl

pub turns : (order : Order) (p : Problem) (s t next : Local) (time : ℕ) (m : Made) → s.verdict ≡ None → time ≡ tick s.clock → MakesFirst order p s time t m
    → next ≡ stamped t (record { time = time; peer = t.me; act = m.act }) (tally no_token m.letters) → IsTurn order p s next m.letters
turns order p s t next time m running clock makes eff =
    let f = makes.does.found in
    let fr : SameFrame s (acted s m.act f) = acted_frame s m.act f in
    let me : t.me ≡ s.me = ap (λ (x : Local). x.me) makes.does.effect ∙ fr.2 in
    let e : Event = record { time = time; peer = t.me; act = m.act } in
    record {
      event = e;
      first = makes.first;
      step = record {
        found = f;
        legal = record { running = running; own = me; time = clock ∙ sym (first_time order s m.act makes.first); fits = makes.does.fits };
        effect = eff ∙ ap (λ (x : Local). stamped x e (tally no_token m.letters)) makes.does.effect
            ∙ ap (λ (ls : List Letter). stamped (acted s m.act f) e (tally no_token ls)) makes.does.sends
            ∙ ap (λ (c : Count). record (acted s m.act f) { clock = time; journal = (acted s m.act f).journal ++ e ∷ []; count = record { sent = c.sent + tally no_token (sent s e f); received = c.received + receives m.act } }) fr.0
            ∙ ap (λ (j : List Event). record (acted s m.act f) { clock = time; journal = j ++ e ∷ []; count = record { sent = s.count.sent + tally no_token (sent s e f); received = s.count.received + receives m.act } }) fr.1;
        sends = makes.does.sends;
      };
    }

-- ---- a letter that comes

abbrev received_by : ℕ → ℕ → Letter → Event
received_by time me l = record { time = time; peer = me; act = Receive l }

-- the letter waits behind the others
abbrev shelved_behind : Local → Letter → Local
shelved_behind s l = record s { waiting = s.waiting ++ l ∷ [] }

pub receives_letter : (order : Order) (p : Problem) (s t next : Local) (time : ℕ) (l copy : Letter) → s.verdict ≡ None → l.to ≡ s.me → time ≡ clock_after s.clock (Receive l) → copy ≡ l
    → t ≡ record s { waiting = s.waiting ++ l ∷ [] } → next ≡ stamped t (record { time = time; peer = t.me; act = Receive copy }) 0 → HasReceived order p s next l
receives_letter order p s t next time l copy running mine clock same shelf eff = record {
  found = tt;
  legal = record { running = running; own = refl; time = refl; fits = mine };
  effect = eff ∙ ap (λ (x : Local). stamped x (received_by time x.me copy) 0) shelf
      ∙ ap (λ (x : Letter). stamped (shelved_behind s l) (received_by time s.me x) 0) same
      ∙ ap (λ (n : ℕ). stamped (shelved_behind s l) (received_by n s.me l) 0) clock;
  sends = refl;
}
