-- What holds at each moment of a lone peer's run.
use Rattle.std.proofs.Common.{◌≡◌, ℕ, suc, ◌+◌, Bool, true, false, cond, eqb, List, [], ◌∷◌, ◌++◌, map, refl, sym, subst, arith, inl, inr}
use Rattle.std.specs.Prelude.{slice_get, Option, Some, None}
use Rattle.cd_steps.specs.declared.Step.TheVariants as step
use Rattle.cd_ledger.specs.declared.items.Origin.TheVariants as origin
use Rattle.cd_ledger.specs.declared.letters.Body.TheVariants as body
use Rattle.cd_ledger.specs.declared.events.Verdict.TheVariants as verdict
use Rattle.cd_names.specs.declared.ownership.Policy.TheVariants as policy'
use Rattle.cd_clause.specs.declared.Clause.{Clause}
use Rattle.cd_names.specs.declared.names.Name.{Name}
use Rattle.cd_names.specs.declared.How.{How}
use Rattle.cd_contract.specs.declared.held.Hit.{Hit}
use Rattle.cd_ledger.specs.declared.items.Origin.{Origin}
use Rattle.cd_ledger.specs.declared.items.Item.{Item}
use Rattle.cd_ledger.specs.declared.records.Record.{Record}
use Rattle.cd_ledger.specs.declared.records.Status.{Status}
use Rattle.cd_ledger.specs.declared.records.Known.{Known}
use Rattle.cd_ledger.specs.declared.items.Outcome.{Outcome}
use Rattle.cd_ledger.specs.declared.items.Outcome.TheVariants.{Named, Subsumed, Trivial}
use Rattle.cd_ledger.specs.declared.letters.Body.{Body}
use Rattle.cd_ledger.specs.declared.events.Act.{Act}
use Rattle.cd_ledger.specs.declared.events.Act.TheVariants.{Admit, Declare, End, Keep, Pass, Receive, Reject, Rewrite, Work}
use Rattle.cd_ledger.specs.declared.events.Event.{Event}
use Rattle.cd_ledger.specs.declared.local.Local.{Local}
use Rattle.std.specs.List.{AllByRecursion as Each}
use Rattle.cd_read.specs.declared.problem.Problem.{Problem}
use Rattle.cd_ledger.specs.Records.{GoesOnBehindCopy, Registry, equations_of}
use Rattle.cd_machine.specs.Rules.{IsFit, IsTautology, clauses_of, is_empty}
use Rattle.cd_laws.specs.Premises.{Premises}
use Rattle.cd_ledger.specs.declared.events.Verdict.{Verdict}
use Rattle.cd_names.specs.declared.ownership.Policy.{Policy}
use Rattle.cd_machine.specs.Arrivals.{held, new_record, next_name, refuted_by}
use Rattle.cd_machine.specs.Contraction.{loss, named_hit, strike_one, struck}
use Rattle.cd_machine.specs.Acts.{admitted_body, kept, resolution, resolve_one, resolved, unshelved}
use Rattle.cd_machine.specs.Tokens.{passed}
use Rattle.cd_machine.specs.Events.{Found, acted, after}
use Rattle.cd_machine.specs.Fits.{EndFits, Fits}
use Rattle.cd_machine.specs.World.{AreShare}
use Rattle.cd_laws.specs.Sound.{BehindCopy, IsContracted}
use Rattle.cd_laws.specs.Turns.{IsForcedHere}
use Rattle.cd_laws.proofs.Lists.{Each_map, Each_push, Each_weaker}
use Rattle.cd_laws.proofs.Strikes.{resolve_entry, resolved_of, strike_entry}
use Rattle.cd_laws.proofs.Closure.{after_keeps}
use Rattle.cd_laws.proofs.Calm.{contracted_keeps}
use Rattle.cd_laws.proofs.Truth.{tidy_fits, tidy_leads, tidy_tidied}
use Rattle.cd_laws.proofs.Acts.{tidy_behind, tidy_shape}
use Rattle.cd_alone.specs.Alone.{AloneRun, AloneRunsAreLawful, Emptiness, IsAloneStart, IsItemLed, IsNotEmpty, Steps}
use Rattle.cd_alone.proofs.Ready.{free_forced, fresh_next, ready_after}
use Rattle.cd_alone.specs.Going.{IsSensible, Going, StartsGo, EventsKeepGoing, EventsKeepReady}
use Rattle.cd_alone.proofs.Led.{items_hold, known_hold, led_acted}
use Rattle.cd_kbo.specs.declared.order.Order.{Order}

-- ---- the empty clause
not_empty_map : (f : Known → Known) → ((e : Known) → (f e).entry ≡ e.entry) → (es : List Known) → Each IsNotEmpty es → Each IsNotEmpty (map f es)
not_empty_map f same es h = Each_map IsNotEmpty f es (Each_weaker IsNotEmpty (λ e. IsNotEmpty (f e)) (λ e g. subst (λ (r : Record). is_empty r.clause ≡ false) (sym (same e)) g) es h)

not_empty_resolved : (o : Origin) (st : Status) (es : List Known) → Each IsNotEmpty es → Each IsNotEmpty (resolved o st es)
not_empty_resolved (origin.Input k) st es h = h
not_empty_resolved (origin.Task t k) st es h = h
not_empty_resolved (origin.Rework n) st es h = not_empty_map (resolve_one n st) (resolve_entry n st) es h

not_empty_struck : (me : ℕ) (hit : Known → Option How) (d : Name) (es : List Known) → Each IsNotEmpty es → Each IsNotEmpty (struck me hit d es)
not_empty_struck me hit d es h = not_empty_map (strike_one me hit d) (strike_entry me hit d) es h

running_empty : (v : Option Verdict) (es : List Known) → v ≡ None → Each IsNotEmpty es → Emptiness v es
running_empty v es run h = subst (λ (u : Option Verdict). Emptiness u es) (sym run) h

-- an entry comes that sets the verdict where it is empty
pushed_empty : (es : List Known) (e : Known) (v : Option Verdict) → v ≡ None → Each IsNotEmpty es → Emptiness (refuted_by e.entry.clause v) (es ++ e ∷ [])
pushed_empty es e v run h = go (is_empty e.entry.clause) refl
  where
    go : (b : Bool) → is_empty e.entry.clause ≡ b → Emptiness (cond b (Some verdict.Refuted) v) (es ++ e ∷ [])
    go true x = record { front = es; last = e; split = refl; others = h; empty = x }
    go false x = running_empty v (es ++ e ∷ []) run (Each_push IsNotEmpty es e h x)

empty_acted : (order : Order) → (p : Problem) (s : Local) (a : Act) (f : Found a) → Fits order p s a f → s.verdict ≡ None → Each IsNotEmpty s.known → Emptiness (acted s a f).verdict (acted s a f).known
empty_acted order p s (Rewrite k) f fits run h = running_empty s.verdict s.known run h
empty_acted order p s (Keep k) f fits run h = go f.outcome
  where
    go : (o : Outcome) → Emptiness (kept s k f.item o f.hit).verdict (kept s k f.item o f.hit).known
    go (Named n) =
        let st : Status = resolution (Named n) (equations_of f.item.steps) in
        pushed_empty (struck s.me f.hit (next_name s) (resolved f.item.origin st s.known)) (held (new_record s f.item)) s.verdict run
        (not_empty_struck s.me f.hit (next_name s) (resolved f.item.origin st s.known) (not_empty_resolved f.item.origin st s.known h))
    go Trivial = running_empty s.verdict _ run (not_empty_resolved f.item.origin (resolution Trivial (equations_of f.item.steps)) s.known h)
    go (Subsumed d) = running_empty s.verdict _ run (not_empty_resolved f.item.origin (resolution (Subsumed d) (equations_of f.item.steps)) s.known h)
empty_acted order p s (Receive l) f fits run h = running_empty s.verdict s.known run h
empty_acted order p s (Admit k) f fits run h = go f.letter.body f.forward
  where
    go : (b : Body) (o : Option Hit) → Emptiness (admitted_body (unshelved s k) b o f.hit).verdict (admitted_body (unshelved s k) b o f.hit).known
    go (body.Kept r) None = pushed_empty (struck s.me f.hit r.name s.known) (held r) s.verdict run (not_empty_struck s.me f.hit r.name s.known h)
    go (body.Kept r) (Some x) = pushed_empty s.known (record { entry = r; status = loss s.me x.by x.how r }) s.verdict run h
    go (body.Notice of by w) o = running_empty s.verdict (struck s.me (named_hit of w) by s.known) run (not_empty_struck s.me (named_hit of w) by s.known h)
    go (body.Token t) o = running_empty s.verdict s.known run h
empty_acted order p s (Reject k) f fits run h = running_empty s.verdict s.known run h
empty_acted order p s (Work t) f fits run h = running_empty s.verdict s.known run h
empty_acted order p s Pass f fits run h =
    elim (eqb s.peers 1) as (λ b. Emptiness (cond b (record s { token = Some (passed s.peers s.count f) }) (record s { token = None })).verdict (cond b (record s { token = Some (passed s.peers s.count f) }) (record s { token = None })).known)
    [ true ↦ running_empty s.verdict s.known run h | false ↦ running_empty s.verdict s.known run h ]
empty_acted order p s Declare f fits run h = h
empty_acted order p s (End v) f fits run h = go v fits
  where
    go : (v : Verdict) → EndFits order s v → Emptiness (Some v) s.known
    go verdict.Refuted x = absurd x
    go verdict.Saturated x = absurd x
    go verdict.Spent x = h
    go (verdict.Limit b) x = h

-- ---- the start
module _ (order : Order) (q : Premises order) (p : Problem) (me n : ℕ) where
  share_free : (k : ℕ) (cs : List Clause) (items : List Item) → AreShare me n k cs items → Each (IsForcedHere order []) items
  share_free k [] items are = rw are tt
  share_free k (c ∷ cs) items (inl x) = rw x.1.4 (free_forced order [] x.1.0 x.1.2.1, share_free (k + 1) cs x.1.1 x.1.3)
  share_free k (c ∷ cs) items (inr x) = share_free (k + 1) cs items x.1

  share_led : (k : ℕ) (cs : List Clause) (items : List Item) → ((j : ℕ) (c : Clause) → slice_get cs j ≡ Some c → slice_get (clauses_of p) (k + j) ≡ Some c) → Each (IsFit p) cs → AreShare me n k cs items → Each (IsItemLed p []) items
  share_led k [] items there ft are = rw are tt
  share_led k (c ∷ cs) items there ft (inl x) =
      let R : Registry = λ m. None in
      let here : slice_get (clauses_of p) k ≡ Some c = (let e : k + 0 ≡ k = omega arith in subst (λ (j : ℕ). slice_get (clauses_of p) j ≡ Some c) e (there 0 c refl)) in
      let right = q.replay_input p R k c here ft.0 in
      let policy : Policy = policy'.Round in
      rw x.1.4 (
        record {
          leads = tidy_leads order q p policy 0 R None (step.Input k) c x.1.0.steps x.1.0.clause ft.0 right x.1.2.2;
          shape = tidy_shape (step.Input k) c x.1.0.steps x.1.0.clause x.1.2.2 refl;
          behind_copy = subst (λ (o : Option Name). BehindCopy o x.1.0.steps) (sym x.1.2.1) (tidy_behind (step.Input k) c x.1.0.steps x.1.0.clause x.1.2.2 refl);
          tidy = (tidy_tidied order q p policy 0 R (step.Input k) c x.1.0.steps x.1.0.clause x.1.2.2).1;
          fit = tidy_fits order q p policy 0 R (step.Input k) c x.1.0.steps x.1.0.clause ft.0 x.1.2.2;
        },
        share_led (k + 1) cs x.1.1 (more k c cs there) ft.1 x.1.3,
      )
    where
      more : (k : ℕ) (c : Clause) (cs : List Clause) → ((j : ℕ) (d : Clause) → slice_get (c ∷ cs) j ≡ Some d → slice_get (clauses_of p) (k + j) ≡ Some d) → (j : ℕ) (d : Clause) → slice_get cs j ≡ Some d → slice_get (clauses_of p) (k + 1 + j) ≡ Some d
      more k c cs there j d h = let e : k + suc j ≡ k + 1 + j = omega arith in subst (λ (i : ℕ). slice_get (clauses_of p) i ≡ Some d) e (there (suc j) d h)
  share_led k (c ∷ cs) items there ft (inr x) = share_led (k + 1) cs items (more k c cs there) ft.1 x.1
    where
      more : (k : ℕ) (c : Clause) (cs : List Clause) → ((j : ℕ) (d : Clause) → slice_get (c ∷ cs) j ≡ Some d → slice_get (clauses_of p) (k + j) ≡ Some d) → (j : ℕ) (d : Clause) → slice_get cs j ≡ Some d → slice_get (clauses_of p) (k + 1 + j) ≡ Some d
      more k c cs there j d h = let e : k + suc j ≡ k + 1 + j = omega arith in subst (λ (i : ℕ). slice_get (clauses_of p) i ≡ Some d) e (there (suc j) d h)

-- ---- each moment
module _ (order : Order) (q : Premises order) (p : Problem) where
  pub going_start : (s : Local) → IsAloneStart p s → Going order p s
  going_start s h = subst (Going order p) (sym h.is) (record {
    ready = record { places = h.in_range; units = omega arith; once = λ n. omega arith; own = tt; tasks = tt; forced = share_free order q p h.me h.peers 0 (clauses_of p) h.items h.share };
    led = record { led = tt; right = tt; items = share_led order q p h.me h.peers 0 (clauses_of p) h.items (λ j c g. (let e : 0 + j ≡ j = omega arith in subst (λ (i : ℕ). slice_get (clauses_of p) i ≡ Some c) (sym e) g)) h.fit h.share };
    contracted = tt;
    emptiness = tt;
  })

  pub going_after : (s : Local) (e : Event) (f : Found e.act) → s.verdict ≡ None → Fits order p s e.act f → Going order p s → Going order p (after s e f)
  going_after s e f run fits g =
      let l = led_acted order q p s e.act f fits g.ready.once (λ place i o n. rw (resolved_of n i.origin (resolution o (equations_of i.steps)) s.known) (g.ready.once n)) g.led in
      record {
        ready = ready_after order p s e f fits g.ready;
        led = record { led = l.led; right = l.right; items = l.items };
        contracted = after_keeps order q (λ t. IsContracted order t.known) (contracted_keeps order q) p s e f fits (fresh_next s.me s.next_seq s.known g.ready.own) g.contracted;
        emptiness = empty_acted order p s e.act f fits run (subst (λ (v : Option Verdict). Emptiness v s.known) run g.emptiness);
      }

  pub going_steps : (es : List Event) (s t : Local) → Steps order p s es t → Going order p s → Going order p t
  going_steps [] s t r g = subst (Going order p) (sym r) g
  going_steps (e ∷ es) s t r g =
      let x = r.2 in
      going_steps es r.0 t r.3 (subst (Going order p) (sym x.effect) (going_after s e x.found x.legal.running x.legal.fits g))

  pub going_run : (start s : Local) (es : List Event) → AloneRun order p start es s → Going order p s
  going_run start s es r = going_steps es start s r.steps (going_start start r.starts)

pub alone_lawful : (order : Order) → AloneRunsAreLawful order
alone_lawful order q p start s es r =
    let g = going_run order q p start s es r in
    record {
      once = g.ready.once;
      own = g.ready.own;
      led = g.led.led;
      items = g.led.items;
      forced = g.ready.forced;
      contracted = g.contracted;
      no_tautology = Each_weaker (IsSensible p) (λ e. ¬ IsTautology e.entry.clause) (λ e h. h.1) s.known g.led.right;
      behind_copy = Each_weaker (IsSensible p) (λ e. GoesOnBehindCopy e.entry.steps) (λ e h. h.2) s.known g.led.right;
      holds = λ interp ii hp. known_hold order q p interp ii hp s.known g.led.led;
      items_hold = λ interp ii hp. items_hold order q p interp ii hp s.known s.pending g.led.led g.led.items;
      emptiness = g.emptiness;
    }

pub starts_go : (order : Order) → StartsGo order
starts_go order q p s h = going_start order q p s h

pub events_keep_going : (order : Order) → EventsKeepGoing order
events_keep_going order q p s e f run fits g = going_after order q p s e f run fits g

pub events_keep_ready : (order : Order) → EventsKeepReady order
events_keep_ready order p s e f fits h = ready_after order p s e f fits h
