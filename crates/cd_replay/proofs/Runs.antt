-- An act that was done and entered is a local step; and local steps one after another.
use Rattle.std.proofs.Common.{◌≡◌, ℕ, ◌+◌, ◌<◌, ◌≤◌, true, false, List, [], ◌∷◌, ◌++◌, cond, eqb, length, take, drop, get_or, refl, ap, sym, ◌∙◌, subst, arith}
use Rattle.std.specs.Prelude.{Option, Some, None, Result, Ok, Err, IsErrAnd}
use Rattle.std.specs.List.{AllByRecursion as Each}
use Rattle.std.proofs.lemmas.List.{length-take, take-append-drop, take_all, take_more}
use Rattle.cd_acts.proofs.Lists.{drop_at}
use Rattle.cd_acts.specs.Indexed.{IsIndexed}
use Rattle.cd_acts.specs.View.{local_of}
use Rattle.cd_acts.specs.declared.state.State.{State}
use Rattle.cd_alone.specs.Going.{EventsKeepGoing, Going, StartsGo}
use Rattle.cd_contract.specs.declared.held.Hit.{Hit}
use Rattle.cd_infer.specs.Laws.{TidyClausesAreUsable}
use Rattle.cd_kbo.specs.declared.order.Order.{Order}
use Rattle.cd_laws.specs.Premises.{Premises}
use Rattle.cd_ledger.specs.declared.events.Act.{Act}
use Rattle.cd_ledger.specs.declared.events.Act.TheVariants.{Admit, Declare, End, Keep, Pass, Receive, Reject, Rewrite, Work}
use Rattle.cd_ledger.specs.declared.events.Event.{Event}
use Rattle.cd_ledger.specs.declared.items.Item.{Item}
use Rattle.cd_ledger.specs.declared.items.Outcome.{Outcome}
use Rattle.cd_ledger.specs.declared.items.Outcome.TheVariants.{Named, Subsumed, Trivial}
use Rattle.cd_ledger.specs.declared.letters.Body.{Body}
use Rattle.cd_ledger.specs.declared.letters.Body.TheVariants as body
use Rattle.cd_ledger.specs.declared.letters.Letter.{Letter}
use Rattle.cd_ledger.specs.declared.local.Limits.{Limits}
use Rattle.cd_ledger.specs.declared.local.Local.{Local}
use Rattle.cd_ledger.specs.declared.records.Known.{Known}
use Rattle.cd_list.specs.Lists.{tally}
use Rattle.cd_machine.specs.Acts.{admitted_body, kept, unshelved}
use Rattle.cd_machine.specs.Events.{Found, acted, no_token, receives, sent}
use Rattle.cd_machine.specs.Rules.{IsFit, clauses_of}
use Rattle.cd_machine.specs.Tokens.{passed}
use Rattle.cd_names.specs.declared.How.{How}
use Rattle.cd_names.specs.declared.ownership.Policy.{Policy}
use Rattle.cd_names.specs.declared.waves.Count.{Count}
use Rattle.cd_peer.proofs.Whole.{sensible_of}
use Rattle.cd_peer.specs.Peers.{IsStartOf}
use Rattle.cd_peer.specs.Plain.{plain}
use Rattle.cd_peer.specs.Turns.{stamped}
use Rattle.cd_read.specs.declared.problem.Problem.{Problem}
use Rattle.cd_tasks.specs.declared.Task.{Task}
use Rattle.cd_replay.specs.Replayed.{CanAct, HasDone, IsDrained, IsDue, IsLiving, IsWhole, NeverFits, replayed}
use Rattle.cd_replay.specs.Replays.{IsReplay, LeadsTo, Replays, Steps, StepsBy, StopsAt}
use Rattle.cd_replay.specs.declared.replaying.ReplayFault.{ReplayFault}
use Rattle.cd_replay.specs.declared.replaying.ReplayFault.TheVariants.{Illegal, Memory}
use Rattle.cd_replay.specs.declared.replayer.Replayer.{Replayer}

-- ---- what an act leaves as it was

abbrev SameFrame : Local → Local → Type 0
SameFrame s t = (t.count ≡ s.count) × (t.journal ≡ s.journal) × (t.me ≡ s.me)

kept_frame : (s : Local) (k : ℕ) (i : Item) (o : Outcome) (hit : Known → Option How) → SameFrame s (kept s k i o hit)
kept_frame s k i (Named n) hit = (refl, refl, refl)
kept_frame s k i Trivial hit = (refl, refl, refl)
kept_frame s k i (Subsumed d) hit = (refl, refl, refl)

body_frame : (s : Local) (b : Body) (f : Option Hit) (hit : Known → Option How) → SameFrame s (admitted_body s b f hit)
body_frame s (body.Kept r) None hit = (refl, refl, refl)
body_frame s (body.Kept r) (Some h) hit = (refl, refl, refl)
body_frame s (body.Notice a b w) f hit = (refl, refl, refl)
body_frame s (body.Token t) f hit = (refl, refl, refl)

acted_frame : (s : Local) (a : Act) (f : Found a) → SameFrame s (acted s a f)
acted_frame s (Rewrite k) f = (refl, refl, refl)
acted_frame s (Keep k) f = kept_frame s k f.item f.outcome f.hit
acted_frame s (Receive l) f = (refl, refl, refl)
acted_frame s (Admit k) f = body_frame (unshelved s k) f.letter.body f.forward f.hit
acted_frame s (Reject k) f = (refl, refl, refl)
acted_frame s (Work t) f = (refl, refl, refl)
acted_frame s Pass f = elim (eqb s.peers 1) as (λ b. SameFrame s (cond b (record s { token = Some (passed s.peers s.count f) }) (record s { token = None }))) [ true ↦ (refl, refl, refl) | false ↦ (refl, refl, refl) ]
acted_frame s Declare f = (refl, refl, refl)
acted_frame s (End v) f = (refl, refl, refl)

-- ---- one event

pub can_act : TidyClausesAreUsable → (order : Order) (p : Problem) (r : Replayer) → IsWhole order p r → CanAct order r
can_act usable order p r w =
    let h = sensible_of usable order p (replayed r) w.going in
    record { drained = w.drained; sensible = record { places = h.places; once = h.once; own = h.own; usable = h.usable; items = h.items }; ready = w.going.ready }

module _ (order : Order) (p : Problem) (s : Local) (e : Event) where
  -- what isn't due, or never fits, is no local step
  pub undue_never : (IsDue s e → ⊥) → (next : Local) → StepsBy order p s e next → ⊥
  undue_never never next step = never (record { running = step.1.legal.running; own = step.1.legal.own; time = step.1.legal.time })

  pub unfit_never : NeverFits order p s e.act → (next : Local) → StepsBy order p s e next → ⊥
  unfit_never never next step = never step.1.found step.1.legal.fits

  module _ (due : IsDue s e) (m q : Replayer) (letters : List Letter) (done : HasDone order p s e.time e.act m letters)
      (entered : replayed q ≡ stamped (replayed m) (record { time = e.time; peer = m.state.me; act = e.act }) (tally no_token letters)) where
    pub makes_step : StepsBy order p s e (replayed q)
    makes_step =
        let f = done.does.found in
        let fr : SameFrame s (acted s e.act f) = acted_frame s e.act f in
        let me : m.state.me ≡ e.peer = ap (λ (x : Local). x.me) done.does.effect ∙ fr.2 ∙ sym due.own in (
          letters,
          record {
            found = f;
            legal = record { running = due.running; own = due.own; time = due.time; fits = done.does.fits };
            effect = entered ∙ ap (λ (n : ℕ). stamped (replayed m) (record { time = e.time; peer = n; act = e.act }) (tally no_token letters)) me
                ∙ ap (λ (x : Local). stamped x e (tally no_token letters)) done.does.effect
                ∙ ap (λ (ls : List Letter). stamped (acted s e.act f) e (tally no_token ls)) done.does.sends
                ∙ ap (λ (c : Count). record (acted s e.act f) { clock = e.time; journal = (acted s e.act f).journal ++ e ∷ []; count = record { sent = c.sent + tally no_token (sent s e f); received = c.received + receives e.act } }) fr.0
                ∙ ap (λ (j : List Event). record (acted s e.act f) { clock = e.time; journal = j ++ e ∷ []; count = record { sent = s.count.sent + tally no_token (sent s e f); received = s.count.received + receives e.act } }) fr.1;
            sends = done.does.sends;
          },
        )

    pub stays_whole : Premises order → EventsKeepGoing order → Going order p s → IsDrained q → IsWhole order p q
    stays_whole premises keeps going drained = record {
      drained = drained;
      going = (let step = makes_step.1 in subst (Going order p) (sym step.effect) (keeps premises p s e step.found step.legal.running step.legal.fits going));
    }

pub entered_drained : (m : Replayer) (t : State) (e : Event) (sent : ℕ) → IsDrained m → IsIndexed t → local_of t ≡ stamped (local_of m.state) e sent → IsDrained (record { state = t; owed = m.owed })
entered_drained m t e sent d indexed h =
    record { indexed = indexed; none = ap (λ (s : Local). s.owed) h ∙ d.none; living = subst (λ (es : List Known). Each (IsLiving es) m.owed) (sym (ap (λ (s : Local). s.known) h)) d.living }

-- ---- several events

replays_push : (p : Problem) (s : Local) (front : List Event) (reached next : Local) (e : Event) → Replays p s front reached → Steps p reached e next → Replays p s (front ++ e ∷ []) next
replays_push p s [] reached next e h step = (next, subst (λ (t : Local). Steps p t e next) h step, refl)
replays_push p s (x ∷ xs) reached next e h step = (h.0, h.1, replays_push p h.0 xs reached next e h.2 step)

-- so far
pub record HasRun (p : Problem) (me peers : ℕ) (policy : Policy) (limits : Limits) (front : List Event) (reached : Local) : Type 0 where
  pub start : Local
  pub starts : IsStartOf p me peers policy limits start
  pub replays : Replays p start front reached

module _ (p : Problem) (me peers : ℕ) (policy : Policy) (limits : Limits) where
  pub run_none : (s : Local) → IsStartOf p me peers policy limits s → HasRun p me peers policy limits [] s
  run_none s h = record { start = s; starts = h; replays = refl }

  module _ (journal : List Event) (i : ℕ) (e : Event) (small : i < length journal) (at : e ≡ get_or journal i e) (reached : Local) (run : HasRun p me peers policy limits (take i journal) reached) where
    pub run_more : (next : Local) → Steps p reached e next → HasRun p me peers policy limits (take (i + 1) journal) next
    run_more next step = record {
      start = run.start;
      starts = run.starts;
      replays = subst (λ (es : List Event). Replays p run.start es next) (sym (take_more journal i e small ∙ ap (λ (x : Event). take i journal ++ x ∷ []) (sym at))) (replays_push p run.start (take i journal) reached next e run.replays step);
    }

    pub run_stops : (index : ℕ) → index ≡ i → ((next : Local) → Steps p reached e next → ⊥) → StopsAt p me peers policy limits journal index
    run_stops index same never = record {
      start = run.start;
      starts = run.starts;
      front = take i journal;
      event = e;
      back = drop (i + 1) journal;
      split = sym (take-append-drop i journal) ∙ ap (λ (es : List Event). take i journal ++ es) (drop_at journal i e small at);
      at = (let l = length-take i journal in omega (arith, same, l, small));
      reached = reached;
      replays = run.replays;
      never = never;
    }

  pub run_all : (journal : List Event) (i : ℕ) (reached : Local) → length journal ≤ i → HasRun p me peers policy limits (take i journal) reached → LeadsTo p me peers policy limits journal reached
  run_all journal i reached all run = record { start = run.start; starts = run.starts; replays = subst (λ (es : List Event). Replays p run.start es reached) (take_all i journal all) run.replays }

module _ (p : Problem) (me peers : ℕ) (policy : Policy) (limits : Limits) (r : Replayer) (start : IsStartOf p me peers policy limits (local_of r.state)) (none : r.owed ≡ []) where
  none_owed : r.state.tasks.owed ≡ []
  none_owed = ap (λ (s : Local). s.owed) start.is

  same_start : local_of r.state ≡ replayed r
  same_start = ap (λ (ts : List Task). record (local_of r.state) { owed = ts }) (none_owed ∙ sym none)

  pub starts_run : HasRun p me peers policy limits [] (replayed r)
  starts_run = run_none p me peers policy limits (replayed r) (subst (IsStartOf p me peers policy limits) same_start start)

  pub starts_whole : (order : Order) → Premises order → StartsGo order → Each (IsFit p) (clauses_of p) → me < peers → IsIndexed r.state → IsWhole order p r
  starts_whole order q starts fit small indexed = record {
    drained = record { indexed = indexed; none = none_owed; living = subst (λ (ts : List Task). Each (IsLiving r.state.known) ts) (sym none) tt };
    going = subst (Going order p) same_start
        (starts q p (local_of r.state) (record { me = me; peers = peers; policy = policy; limits = limits; items = start.items; fit = fit; in_range = small; share = start.share; is = start.is }));
  }

-- nothing is said of want of memory
pub memory_alone : (p : Problem) (me peers : ℕ) (policy : Policy) (limits : Limits) (journal : List Event) (r : Result Local ReplayFault) → IsErrAnd r (λ fault. fault ≡ Memory) → IsReplay p me peers policy limits journal r
memory_alone p me peers policy limits journal (Ok end) h = absurd h
memory_alone p me peers policy limits journal (Err (Illegal index)) h = absurd cc
memory_alone p me peers policy limits journal (Err Memory) h = tt

-- the order that a replay makes is the plain one
module _ (order : Order) (same : order ≡ plain) (p : Problem) (s : Local) (e : Event) where
  pub plain_step : (next : Local) → StepsBy order p s e next → Steps p s e next
  plain_step next h = subst (λ (o : Order). StepsBy o p s e next) same h

  pub plain_never : ((next : Local) → StepsBy order p s e next → ⊥) → (next : Local) → Steps p s e next → ⊥
  plain_never h next step = h next (subst (λ (o : Order). StepsBy o p s e next) (sym same) step)
