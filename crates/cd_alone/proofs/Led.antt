-- What is known here stands on what was known here before it.
use Rattle.std.proofs.Common.{◌≡◌, ℕ, ◌+◌, ◌≤◌, true, false, cond, eqb, List, [], ◌∷◌, ◌++◌, map, refl, sym, ◌∙◌, subst, arith, inl, inr}
use Rattle.std.specs.Prelude.{slice_get, remove, Option, Some, None}
use Rattle.cd_steps.specs.declared.Step.TheVariants as step
use Rattle.cd_names.specs.declared.How.TheVariants as how
use Rattle.cd_ledger.specs.declared.items.Origin.TheVariants as origin
use Rattle.cd_ledger.specs.declared.letters.Body.TheVariants as body
use Rattle.cd_clause.specs.declared.Clause.{Clause}
use Rattle.cd_names.specs.declared.names.Name.{Name}
use Rattle.cd_steps.specs.declared.Step.{Step}
use Rattle.cd_names.specs.declared.How.{How}
use Rattle.cd_contract.specs.declared.held.Hit.{Hit}
use Rattle.cd_tasks.specs.declared.Task.{Task}
use Rattle.cd_tasks.specs.declared.Task.TheVariants.{Pair, Solo}
use Rattle.cd_ledger.specs.declared.items.Origin.{Origin}
use Rattle.cd_infer.specs.declared.Conclusion.{Conclusion}
use Rattle.cd_ledger.specs.declared.items.Item.{Item}
use Rattle.cd_ledger.specs.declared.records.Record.{Record}
use Rattle.cd_ledger.specs.declared.records.Status.{Status}
use Rattle.cd_ledger.specs.declared.records.Known.{Known}
use Rattle.cd_ledger.specs.declared.items.Outcome.{Outcome}
use Rattle.cd_ledger.specs.declared.items.Outcome.TheVariants.{Named, Subsumed, Trivial}
use Rattle.cd_ledger.specs.declared.letters.Body.{Body}
use Rattle.cd_ledger.specs.declared.events.Act.{Act}
use Rattle.cd_ledger.specs.declared.events.Act.TheVariants.{Admit, Declare, End, Keep, Pass, Receive, Reject, Rewrite, Work}
use Rattle.cd_ledger.specs.declared.local.Local.{Local}
use Rattle.cd_list.specs.Lists.{tally}
use Rattle.std.specs.List.{AllByRecursion as Each}
use Rattle.std.specs.List.{cons_option}
use Rattle.cd_read.specs.declared.problem.Problem.{Problem}
use Rattle.cd_ledger.specs.Records.{IsShape, Registry, begins, cites_of, equations_of, is_of, recorded}
use Rattle.cd_machine.specs.Rules.{IsConclusionWithin, IsFit, IsTidied, clauses_of}
use Rattle.cd_clause.specs.Truth.{Holds, Interp, IsInterp}
use Rattle.cd_laws.specs.Premises.{IsRightConclusion, Premises}
use Rattle.cd_laws.specs.Rooted.{AreLed}
use Rattle.cd_machine.specs.Right.{IsTidyStep, Lead, registry_of}
use Rattle.cd_steps.specs.Premises.{names_in}
use Rattle.cd_machine.specs.Arrivals.{arrived, held, new_record}
use Rattle.cd_machine.specs.Contraction.{hit_on, loss, lost, named_hit, rework_item, rework_of, reworks, strike_one, struck}
use Rattle.cd_machine.specs.Acts.{AreTaskItems, Concludes, Rewritten, admitted_body, kept, resolution, resolve_one, resolved, reworked, taken, unshelved}
use Rattle.cd_machine.specs.Fits.{BodyFine, Fits, OutcomeFits, RewriteFits}
use Rattle.cd_machine.specs.Tokens.{passed}
use Rattle.cd_machine.specs.Events.{Found, acted}
use Rattle.cd_machine.specs.Hits.{IsReducer, IsRewriter}
use Rattle.cd_laws.specs.Sound.{BehindCopy}
use Rattle.cd_laws.proofs.Lists.{Each_all, Each_append, Each_at, Each_both, Each_first, Each_gather, Each_map, Each_push, Each_remove, Each_set, Each_weaker, find_is, none_of_tally}
use Rattle.cd_laws.proofs.Steps.{name_eq_refl}
use Rattle.cd_laws.proofs.Strikes.{resolve_entry, resolved_each, strike_entry}
use Rattle.cd_laws.proofs.Whole.{recorded_map}
use Rattle.cd_laws.proofs.Descent.{recorded_counts}
use Rattle.cd_laws.proofs.Models.{recorded_back}
use Rattle.cd_laws.proofs.Truth.{lead_append, recorded_true, shape_append, tidy_fits, tidy_leads, tidy_tidied}
use Rattle.cd_laws.proofs.Acts.{append_behind, tidy_behind, tidy_shape}
use Rattle.cd_laws.proofs.Rooted.{append_none, append_push, map_push}
use Rattle.cd_alone.specs.Going.{IsSensible, Led}
use Rattle.cd_alone.specs.Ready.{AreOnce}
use Rattle.cd_alone.specs.Alone.{IsItemLed}
use Rattle.cd_alone.proofs.Ready.{Grows, grows_push, grows_resolved, grows_struck, new_recorded}
use Rattle.cd_kbo.specs.declared.order.Order.{Order}
use Rattle.cd_steps.specs.Laws.{HoldsIfAny}

-- with each name once, every entry's record is found under its name
pub all_once : (es : List Known) → AreOnce es → Each (λ e. recorded e.entry.name es ≡ Some e.entry) es
all_once [] h = tt
all_once (x ∷ es) h = (
  rw (name_eq_refl x.entry.name) refl,
  Each_weaker (λ e. recorded e.entry.name es ≡ Some e.entry) (λ e. recorded e.entry.name (x ∷ es) ≡ Some e.entry) more es (all_once es (λ n. less n)),
)
  where
    less : (n : Name) → tally (is_of n) es ≤ 1
    less n = let y = h n in omega (arith, y)

    more : (e : Known) → recorded e.entry.name es ≡ Some e.entry → recorded e.entry.name (x ∷ es) ≡ Some e.entry
    more e g =
        elim (is_of e.entry.name x) as (λ b. cond b 1 0 + tally (is_of e.entry.name) es ≤ 1 → cond b (Some x.entry) (recorded e.entry.name es) ≡ Some e.entry)
        [ true ↦ λ u. absurd (let c = recorded_counts e.entry.name es e.entry g in omega (arith, u, c)) | false ↦ λ u. g ] (h e.entry.name)

-- the entry's steps lead to its clause over the earlier entries
abbrev pub EntryLed : Problem → List Known → Record → Type 0
EntryLed p front r = Lead p (λ n. recorded n front) None r.steps r.clause × IsShape r.steps × (r.cites ≡ cites_of r.steps)

module _ (order : Order) (q : Premises order) (p : Problem) where
  pub lead_grow : (R S : Registry) → ((n : Name) (r : Record) → R n ≡ Some r → S n ≡ Some r) → (current : Option Clause) (ss : List Step) (c : Clause) → Lead p R current ss c → Lead p S current ss c
  lead_grow R S grow current [] c x = x
  lead_grow R S grow current (s ∷ ss) c x =
      (x.0, q.replay_grows p R S current s x.0 (Each_all (λ n. (r : Record) → R n ≡ Some r → S n ≡ Some r) grow (names_in s)) x.1, lead_grow R S grow (Some x.0) ss c x.2)

  entry_grow : (es fs : List Known) → Grows es fs → (r : Record) → EntryLed p es r → EntryLed p fs r
  entry_grow es fs grows r h = (lead_grow (λ n. recorded n es) (λ n. recorded n fs) grows None r.steps r.clause h.0, h.1, h.2)

  item_grow : (es fs : List Known) → Grows es fs → (i : Item) → IsItemLed p es i → IsItemLed p fs i
  item_grow es fs grows i h = record { leads = lead_grow (λ n. recorded n es) (λ n. recorded n fs) grows None i.steps i.clause h.leads; shape = h.shape; behind_copy = h.behind_copy; tidy = h.tidy; fit = h.fit }

  items_grow : (es fs : List Known) → Grows es fs → (is : List Item) → Each (IsItemLed p es) is → Each (IsItemLed p fs) is
  items_grow es fs grows is h = Each_weaker (IsItemLed p es) (IsItemLed p fs) (item_grow es fs grows) is h

  led_push : (front es : List Known) (e : Known) → AreLed p front es → EntryLed p (front ++ es) e.entry → AreLed p front (es ++ e ∷ [])
  led_push front [] e h g = (subst (λ (zs : List Known). EntryLed p zs e.entry) (append_none front) g, tt)
  led_push front (x ∷ es) e h g = (h.0, led_push (front ++ x ∷ []) es e h.1 (subst (λ (zs : List Known). EntryLed p zs e.entry) (sym (append_push front x es)) g))

  led_map : (f : Known → Known) → ((e : Known) → (f e).entry ≡ e.entry) → (front es : List Known) → AreLed p front es → AreLed p (map f front) (map f es)
  led_map f same front [] h = tt
  led_map f same front (e ∷ es) h = (
    subst (λ (r : Record). EntryLed p (map f front) r) (sym (same e)) (entry_grow front (map f front) (λ n r g. recorded_map n f same front ∙ g) e.entry h.0),
    subst (λ (zs : List Known). AreLed p zs (map f es)) (map_push f front e) (led_map f same (front ++ e ∷ []) es h.1),
  )

  led_resolved : (o : Origin) (st : Status) (es : List Known) → AreLed p [] es → AreLed p [] (resolved o st es)
  led_resolved (origin.Input k) st es h = h
  led_resolved (origin.Task t k) st es h = h
  led_resolved (origin.Rework m) st es h = led_map (resolve_one m st) (resolve_entry m st) [] es h

  right_map : (f : Known → Known) → ((e : Known) → (f e).entry ≡ e.entry) → (es : List Known) → Each (IsSensible p) es → Each (IsSensible p) (map f es)
  right_map f same es h = Each_map (IsSensible p) f es (Each_weaker (IsSensible p) (λ e. IsSensible p (f e)) (λ e g. subst (λ (r : Record). IsSensible p (held r)) (sym (same e)) g) es h)

  -- an item of what is reduced
  rework_led : (fs : List Known) (me : ℕ) (d : Name) (r : Record) (o : Option How) → recorded r.name fs ≡ Some r → IsFit p r.clause → IsTidied r.clause r.clause → Each (IsItemLed p fs) (cons_option (rework_of me d r o) [])
  rework_led fs me d r None rec ft td = tt
  rework_led fs me d r (Some how.Subsumes) rec ft td = tt
  rework_led fs me d r (Some how.Reduces) rec ft td =
      elim (eqb r.owner me) as (λ b. Each (IsItemLed p fs) (cons_option (cond b (Some (rework_item d r)) None) []))
      [ true ↦ (record { leads = (r.clause, q.replay_copy p (λ n. recorded n fs) r.name r rec ft, refl); shape = (refl, tt); behind_copy = tt; tidy = td; fit = ft }, tt) | false ↦ tt ]

  reworks_led : (me : ℕ) (hit : Known → Option How) (d : Name) (es fs : List Known) → Grows es fs → AreOnce es → Each (IsSensible p) es → Each (IsItemLed p fs) (reworks me hit d es)
  reworks_led me hit d es fs grows once right =
      Each_gather (IsItemLed p fs) (λ e. rework_of me d e.entry (hit_on hit e)) es
      (Each_weaker (λ e. (recorded e.entry.name es ≡ Some e.entry) × IsSensible p e) (λ e. Each (IsItemLed p fs) (cons_option (rework_of me d e.entry (hit_on hit e)) []))
      (λ e g. rework_led fs me d e.entry (hit_on hit e) (grows e.entry.name e.entry g.0) g.1.0 g.1.3) es
      (Each_both (λ e. recorded e.entry.name es ≡ Some e.entry) (IsSensible p) es (all_once es once) right))

  led_lost : (s : Local) (hit : Known → Option How) (d : Name) → AreOnce s.known → Led p s.known s.pending → Led p (lost s hit d).known (lost s hit d).pending
  led_lost s hit d once h =
      let fs : List Known = struck s.me hit d s.known in
      record {
        led = led_map (strike_one s.me hit d) (strike_entry s.me hit d) [] s.known h.led;
        right = right_map (strike_one s.me hit d) (strike_entry s.me hit d) s.known h.right;
        items = Each_append (IsItemLed p fs) s.pending (reworks s.me hit d s.known) (items_grow s.known fs (grows_struck s.me hit d s.known) s.pending h.items)
            (reworks_led s.me hit d s.known fs (grows_struck s.me hit d s.known) once h.right);
      }

  -- an entry comes behind the others
  led_added : (es : List Known) (is : List Item) (e : Known) → EntryLed p es e.entry → IsSensible p e → Led p es is → Led p (es ++ e ∷ []) is
  led_added es is e g right h = record {
    led = led_push [] es e h.led g;
    right = Each_push (IsSensible p) es e h.right right;
    items = items_grow es (es ++ e ∷ []) (grows_push es e) is h.items;
  }

  led_arrived : (s : Local) (hit : Known → Option How) (r : Record) → AreOnce s.known → EntryLed p s.known r → IsSensible p (held r) → Led p s.known s.pending → Led p (arrived s hit r).known (arrived s hit r).pending
  led_arrived s hit r once g right h =
      led_added (struck s.me hit r.name s.known) (lost s hit r.name).pending (held r) (entry_grow s.known (struck s.me hit r.name s.known) (grows_struck s.me hit r.name s.known) r g) right (led_lost s hit r.name once h)

  led_taken : (s : Local) (place : ℕ) (i : Item) (o : Outcome) → Led p s.known s.pending → Led p (taken s place i o).known (taken s place i o).pending
  led_taken s place i o h =
      let st : Status = resolution o (equations_of i.steps) in
      record {
        led = led_resolved i.origin st s.known h.led;
        right = resolved_each (IsSensible p) i.origin st (λ n e g. subst (λ (r : Record). IsSensible p (held r)) (sym (resolve_entry n st e)) g) s.known h.right;
        items = items_grow s.known (resolved i.origin st s.known) (grows_resolved i.origin st s.known) (remove s.pending place) (Each_remove (IsItemLed p s.known) s.pending place h.items);
      }

  led_kept : (s : Local) (place : ℕ) (i : Item) (o : Outcome) (hit : Known → Option How) → slice_get s.pending place ≡ Some i → i.forced ≡ None → OutcomeFits s i o → AreOnce s.known → AreOnce (taken s place i o).known
      → Led p s.known s.pending → Led p (kept s place i o hit).known (kept s place i o hit).pending
  led_kept s place i (Named n) hit there free fits once once' h =
      let st : Status = resolution (Named n) (equations_of i.steps) in
      let it = Each_at (IsItemLed p s.known) s.pending place i there h.items in
      let a = led_arrived (taken s place i (Named n)) hit (new_record s i) once'
      (lead_grow (λ m. recorded m s.known) (λ m. recorded m (resolved i.origin st s.known)) (grows_resolved i.origin st s.known) None i.steps i.clause it.leads, it.shape, refl)
      (it.fit, fits.0, subst (λ (o : Option Name). BehindCopy o i.steps) free it.behind_copy, it.tidy) (led_taken s place i (Named n) h) in
      record { led = a.led; right = a.right; items = a.items }
  led_kept s place i Trivial hit there free fits once once' h = led_taken s place i Trivial h
  led_kept s place i (Subsumed d) hit there free fits once once' h = led_taken s place i (Subsumed d) h

  led_body : (s : Local) (sender : ℕ) (b : Body) (o : Option Hit) (hit : Known → Option How) → BodyFine order p s sender b → AreOnce s.known → Led p s.known s.pending
      → Led p (admitted_body s b o hit).known (admitted_body s b o hit).pending
  led_body s sender (body.Kept r) None hit fine once h =
      let a = led_arrived s hit r once (fine.leads, fine.shape, fine.cites) (fine.fit, fine.no_tautology, fine.behind_copy, fine.tidy) h in record { led = a.led; right = a.right; items = a.items }
  led_body s sender (body.Kept r) (Some x) hit fine once h =
      let e : Known = record { entry = r; status = loss s.me x.by x.how r } in
      let a = led_added s.known s.pending e (fine.leads, fine.shape, fine.cites) (fine.fit, fine.no_tautology, fine.behind_copy, fine.tidy) h in
      record {
        led = a.led;
        right = a.right;
        items = Each_append (IsItemLed p (s.known ++ e ∷ [])) s.pending (cons_option (rework_of s.me x.by r (Some x.how)) []) a.items
            (rework_led (s.known ++ e ∷ []) s.me x.by r (Some x.how) (new_recorded s.known e (none_of_tally (is_of r.name) s.known fine.unknown)) fine.fit fine.tidy);
      }
  led_body s sender (body.Notice of by w) o hit fine once h = led_lost s (named_hit of w) by once h
  led_body s sender (body.Token t) o hit fine once h = record { led = h.led; right = h.right; items = h.items }

  -- the entry that rewrites is known, fit and tidy
  rewriter_entry : (es : List Known) (f : Option Name) (c : Clause) (e : Known) → IsRewriter order es f c e → AreOnce es → Each (IsSensible p) es → (recorded e.entry.name es ≡ Some e.entry) × IsFit p e.entry.clause × IsTidied e.entry.clause e.entry.clause
  rewriter_entry es None c e w once right =
      let a = Each_first (IsReducer order c) (λ x. (recorded x.entry.name es ≡ Some x.entry) × IsSensible p x) es e w (Each_both (λ x. recorded x.entry.name es ≡ Some x.entry) (IsSensible p) es (all_once es once) right) in
      (a.1.0, a.1.1.0, a.1.1.3)
  rewriter_entry es (Some d) c e w once right =
      let a = find_is (λ x. (recorded x.entry.name es ≡ Some x.entry) × IsSensible p x) (is_of d) es e w (Each_both (λ x. recorded x.entry.name es ≡ Some x.entry) (IsSensible p) es (all_once es once) right) in
      (a.0.0, a.0.1.0, a.0.1.3)

  tidy_goes_on : (s : Step) (c : Clause) (steps : List Step) (d : Clause) → IsTidyStep s c steps d → begins s ≡ false → Each (λ t. begins t ≡ false) steps
  tidy_goes_on s c steps d (inl x) h = rw x.1 (h, tt)
  tidy_goes_on s c steps d (inr x) h = rw x.2 (h, (refl, tt))

  led_rewritten : (s : Local) (place : ℕ) (f : Rewritten) → RewriteFits order s place f → AreOnce s.known → Led p s.known s.pending → IsItemLed p s.known (reworked f)
  led_rewritten s place f fits once h =
      let R : Registry = λ n. recorded n s.known in
      let st : Step = step.Rewrite f.equation.entry.name f.side f.literal f.path f.subst in
      let it = Each_at (IsItemLed p s.known) s.pending place f.item fits.there h.items in
      let e = rewriter_entry s.known f.item.forced f.item.clause f.equation fits.rewriter once h.right in
      let r = q.replay_rewrite p R f.equation.entry.name f.equation.entry f.item.clause f.side f.literal f.path f.subst f.reduct e.0 e.1 e.2 it.fit it.tidy fits.reduces fits.within in
      record {
        leads = lead_append order q p s.policy 0 R None f.item.steps f.steps f.item.clause f.clause it.leads (tidy_leads order q p s.policy 0 R (Some f.item.clause) st f.reduct f.steps f.clause r.1 r.0 fits.tidy);
        shape = shape_append f.item.steps f.steps it.shape (tidy_goes_on st f.reduct f.steps f.clause fits.tidy refl);
        behind_copy = append_behind f.item.steps st f.reduct f.steps f.clause fits.tidy it.shape;
        tidy = (tidy_tidied order q p s.policy 0 R st f.reduct f.steps f.clause fits.tidy).1;
        fit = tidy_fits order q p s.policy 0 R st f.reduct f.steps f.clause r.1 fits.tidy;
      }

  recorded_fit : (es : List Known) → Each (IsSensible p) es → (n : Name) (r : Record) → recorded n es ≡ Some r → IsFit p r.clause
  recorded_fit es h n r g = let x = recorded_true (IsSensible p) n es r h g in subst (λ (c : Record). IsFit p c.clause) x.2 x.1.0

  found_right : (s : Local) → Each (IsSensible p) s.known → (t : Task) (found : List Conclusion) → Concludes order (registry_of s) t found → Each IsConclusionWithin found → Each (IsRightConclusion p (registry_of s)) found
  found_right s k (Solo a) found x h = q.solo_right p (registry_of s) a x.0 found x.1 (recorded_fit s.known k a x.0 x.1) x.2 h
  found_right s k (Pair a b) found x h = q.pair_right p (registry_of s) a b x.0 x.1 found x.2 x.3 (recorded_fit s.known k a x.0 x.2) (recorded_fit s.known k b x.1 x.3) x.4 h

  found_led : (s : Local) (task : Task) (m : ℕ) (cs : List Conclusion) (items : List Item) → Each (IsRightConclusion p (registry_of s)) cs → AreTaskItems task m cs items → Each (IsItemLed p s.known) items
  found_led s task m [] items right are = rw are tt
  found_led s task m (c ∷ cs) items right are =
      rw are.4 (
        record {
          leads = tidy_leads order q p s.policy 0 (registry_of s) None c.step c.clause are.0.steps are.0.clause right.0.3 right.0.2 are.2.2;
          shape = tidy_shape c.step c.clause are.0.steps are.0.clause are.2.2 right.0.0;
          behind_copy = subst (λ (o : Option Name). BehindCopy o are.0.steps) (sym are.2.1) (tidy_behind c.step c.clause are.0.steps are.0.clause are.2.2 right.0.1);
          tidy = (tidy_tidied order q p s.policy 0 (registry_of s) c.step c.clause are.0.steps are.0.clause are.2.2).1;
          fit = tidy_fits order q p s.policy 0 (registry_of s) c.step c.clause are.0.steps are.0.clause right.0.3 are.2.2;
        },
        found_led s task (m + 1) cs are.1 right.1 are.3,
      )

  pub led_acted : (s : Local) (a : Act) (f : Found a) → Fits order p s a f → AreOnce s.known → ((place : ℕ) (i : Item) (o : Outcome) → AreOnce (taken s place i o).known)
      → Led p s.known s.pending → Led p (acted s a f).known (acted s a f).pending
  led_acted s (Rewrite k) f fits once once' h = record { led = h.led; right = h.right; items = Each_set (IsItemLed p s.known) s.pending k (reworked f) h.items (led_rewritten s k f fits once h) }
  led_acted s (Keep k) f fits once once' h = led_kept s k f.item f.outcome f.hit fits.there fits.free fits.outcome once (once' k f.item f.outcome) h
  led_acted s (Receive l) f fits once once' h = record { led = h.led; right = h.right; items = h.items }
  led_acted s (Admit k) f fits once once' h = led_body (unshelved s k) f.letter.sender f.letter.body f.forward f.hit (fine f.letter.body fits.fine.3) once (record { led = h.led; right = h.right; items = h.items })
    where
      fine : (b : Body) → BodyFine order p s f.letter.sender b → BodyFine order p (unshelved s k) f.letter.sender b
      fine (body.Kept r) x = record { unknown = x.unknown; issuer = x.issuer; owner = x.owner; shape = x.shape; behind_copy = x.behind_copy; cites = x.cites; share = x.share; leads = x.leads; tidy = x.tidy; fit = x.fit; no_tautology = x.no_tautology }
      fine (body.Notice a b w) x = x
      fine (body.Token y) x = x
  led_acted s (Reject k) f fits once once' h = record { led = h.led; right = h.right; items = h.items }
  led_acted s (Work t) f fits once once' h = record {
    led = h.led;
    right = h.right;
    items = Each_append (IsItemLed p s.known) s.pending f.items h.items (found_led s t 0 f.found f.items (found_right s h.right t f.found fits.1.concludes fits.1.within) fits.1.items);
  }
  led_acted s Pass f fits once once' h =
      elim (eqb s.peers 1) as (λ b. Led p (cond b (record s { token = Some (passed s.peers s.count f) }) (record s { token = None })).known (cond b (record s { token = Some (passed s.peers s.count f) }) (record s { token = None })).pending)
      [ true ↦ record { led = h.led; right = h.right; items = h.items } | false ↦ record { led = h.led; right = h.right; items = h.items } ]
  led_acted s Declare f fits once once' h = record { led = h.led; right = h.right; items = h.items }
  led_acted s (End v) f fits once once' h = record { led = h.led; right = h.right; items = h.items }

  -- what holds
  lead_holds : (interp : Interp) → IsInterp interp → Each (Holds interp) (clauses_of p) → (R : Registry) → ((n : Name) (r : Record) → R n ≡ Some r → Holds interp r.clause) → (current : Option Clause) (ss : List Step) (c : Clause) → HoldsIfAny interp current → Lead p R current ss c → Holds interp c
  lead_holds interp ii hp R hr current [] c now x = subst (HoldsIfAny interp) x now
  lead_holds interp ii hp R hr current (s ∷ ss) c now x =
      lead_holds interp ii hp R hr (Some x.0) ss c (q.replay_sound interp ii p R current s x.0 hp now (Each_all (λ n. (r : Record) → R n ≡ Some r → Holds interp r.clause) hr (names_in s)) x.1) x.2

  led_holds : (interp : Interp) → IsInterp interp → Each (Holds interp) (clauses_of p) → (front es : List Known) → ((n : Name) (r : Record) → recorded n front ≡ Some r → Holds interp r.clause) → AreLed p front es → Each (λ e. Holds interp e.entry.clause) es
  led_holds interp ii hp front [] old h = tt
  led_holds interp ii hp front (e ∷ es) old h =
      let now : Holds interp e.entry.clause = lead_holds interp ii hp (λ n. recorded n front) old None e.entry.steps e.entry.clause tt h.0.0 in (
        now,
        led_holds interp ii hp (front ++ e ∷ []) es
            (λ n r g. elim (recorded_back n front e r g) [ inl x ↦ old n r x | inr x ↦ subst (λ (c : Record). Holds interp c.clause) x now ]) h.1,
      )

  pub known_hold : (interp : Interp) → IsInterp interp → Each (Holds interp) (clauses_of p) → (es : List Known) → AreLed p [] es → Each (λ e. Holds interp e.entry.clause) es
  known_hold interp ii hp es h = led_holds interp ii hp [] es (λ n r g. absurd (let z : None ≡ Some r = g in cc)) h

  pub items_hold : (interp : Interp) → IsInterp interp → Each (Holds interp) (clauses_of p) → (es : List Known) (is : List Item) → AreLed p [] es → Each (IsItemLed p es) is → Each (λ i. Holds interp i.clause) is
  items_hold interp ii hp es is h g =
      Each_weaker (IsItemLed p es) (λ i. Holds interp i.clause)
      (λ i x. lead_holds interp ii hp (λ n. recorded n es)
      (λ n r rec. (let y = recorded_true (λ e. Holds interp e.entry.clause) n es r (known_hold interp ii hp es h) rec in subst (λ (c : Record). Holds interp c.clause) y.2 y.1)) None i.steps i.clause tt x.leads) is g
