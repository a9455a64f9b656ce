-- Each record stands on what was known here before it.
use Rattle.std.proofs.Common.{◌≡◌, ℕ, ◌+◌, ◌<◌, Bool, true, false, ◌||◌, cond, eqb, List, [], ◌∷◌, ◌++◌, map, length, refl, ap, sym, ◌∙◌, subst, inl, inr}
use Rattle.std.specs.Prelude.{slice_get, remove, Option, Some, None}
use Rattle.cd_steps.specs.declared.Step.TheVariants as step
use Rattle.cd_names.specs.declared.How.TheVariants as how
use Rattle.cd_ledger.specs.declared.items.Origin.TheVariants as origin
use Rattle.cd_ledger.specs.declared.letters.Body.TheVariants as body
use Rattle.cd_clause.specs.declared.Clause.{Clause}
use Rattle.cd_names.specs.declared.names.Name.{Name}
use Rattle.cd_steps.specs.declared.Step.{Step}
use Rattle.cd_names.specs.declared.How.{How}
use Rattle.cd_contract.specs.declared.held.Hit.{Hit}
use Rattle.cd_tasks.specs.declared.Task.{Task}
use Rattle.cd_ledger.specs.declared.items.Origin.{Origin}
use Rattle.cd_infer.specs.declared.Conclusion.{Conclusion}
use Rattle.cd_ledger.specs.declared.items.Item.{Item}
use Rattle.cd_ledger.specs.declared.records.Record.{Record}
use Rattle.cd_ledger.specs.declared.records.Status.{Status}
use Rattle.cd_ledger.specs.declared.records.Known.{Known}
use Rattle.cd_ledger.specs.declared.items.Outcome.{Outcome}
use Rattle.cd_ledger.specs.declared.items.Outcome.TheVariants.{Named, Subsumed, Trivial}
use Rattle.cd_ledger.specs.declared.letters.Body.{Body}
use Rattle.cd_names.specs.declared.ownership.Policy.{Policy}
use Rattle.cd_ledger.specs.declared.events.Act.{Act}
use Rattle.cd_ledger.specs.declared.events.Act.TheVariants.{Admit, Declare, End, Keep, Pass, Receive, Reject, Rewrite, Work}
use Rattle.cd_ledger.specs.declared.events.Event.{Event}
use Rattle.cd_ledger.specs.declared.local.Local.{Local}
use Rattle.std.specs.List.{AllByRecursion as Each}
use Rattle.std.specs.List.{cons_option}
use Rattle.cd_machine.specs.Lists.{IsFirst}
use Rattle.cd_read.specs.declared.problem.Problem.{Problem}
use Rattle.cd_ledger.specs.Records.{Registry, equations_of, is_known, is_of, look, recorded}
use Rattle.cd_machine.specs.Rules.{clauses_of}
use Rattle.cd_machine.specs.Right.{IsTidyStep, Lead, registry_of}
use Rattle.cd_steps.specs.Premises.{names_in}
use Rattle.cd_machine.specs.Arrivals.{arrived, held, new_record}
use Rattle.cd_machine.specs.Contraction.{hit_on, loss, named_hit, rework_item, rework_of, reworks, strike_one, struck}
use Rattle.cd_machine.specs.Acts.{AreTaskItems, admitted_body, kept, resolution, resolve_one, resolved, reworked, taken, unshelved}
use Rattle.cd_machine.specs.Tokens.{passed}
use Rattle.cd_machine.specs.Events.{Found, acted}
use Rattle.cd_machine.specs.Hits.{IsBeater, IsReducer, IsRewriter}
use Rattle.cd_machine.specs.Fits.{BodyFine, BodyHits, Fits, body_ready}
use Rattle.cd_machine.specs.World.{AreShare, Run, World, at}
use Rattle.cd_laws.specs.Premises.{IsRightConclusion, Premises}
use Rattle.cd_machine.specs.Spread.{record_of}
use Rattle.cd_laws.specs.Sound.{IsSound, IsTrue, TrueKnown}
use Rattle.cd_laws.specs.Rooted.{AreCited, AreLed, ForcedKnown, IsRooted, ItemKnown, NamesKnown, RunsAreLed}
use Rattle.cd_laws.proofs.Lists.{Each_append, Each_at, Each_gather, Each_remove, Each_set, Each_weaker, and_true}
use Rattle.cd_laws.proofs.Steps.{at_each, name_eq_refl}
use Rattle.cd_laws.proofs.Strikes.{resolve_entry, strike_entry}
use Rattle.cd_laws.proofs.Shares.{local_right}
use Rattle.cd_laws.proofs.Whole.{cites_all, each_of_each, recorded_known, run_sound, step_sound}
use Rattle.cd_laws.proofs.Start.{start_sound}
use Rattle.cd_laws.proofs.Descent.{recorded_named}
use Rattle.cd_laws.proofs.Models.{recorded_back}
use Rattle.cd_kbo.specs.declared.order.Order.{Order}

known_append : (es fs : List Known) (n : Name) → is_known es n ≡ true → is_known (es ++ fs) n ≡ true
known_append [] fs n h = cc
known_append (e ∷ es) fs n h = elim (is_of n e) as (λ b. (b || is_known es n) ≡ true → (b || is_known (es ++ fs) n) ≡ true) [ true ↦ λ g. refl | false ↦ λ g. known_append es fs n g ] h

known_last : (es : List Known) (e : Known) → is_known (es ++ e ∷ []) e.entry.name ≡ true
known_last [] e = rw (name_eq_refl e.entry.name) refl
known_last (x ∷ es) e = elim (is_of e.entry.name x) as (λ b. (b || is_known (es ++ e ∷ []) e.entry.name) ≡ true) [ true ↦ refl | false ↦ known_last es e ]

known_map : (f : Known → Known) → ((e : Known) → (f e).entry ≡ e.entry) → (es : List Known) (n : Name) → is_known (map f es) n ≡ is_known es n
known_map f same [] n = refl
known_map f same (e ∷ es) n = rw (same e, known_map f same es n) refl

known_resolved : (o : Origin) (st : Status) (es : List Known) (n : Name) → is_known (resolved o st es) n ≡ is_known es n
known_resolved (origin.Input k) st es n = refl
known_resolved (origin.Task t k) st es n = refl
known_resolved (origin.Rework m) st es n = known_map (resolve_one m st) (resolve_entry m st) es n

-- where each known name stays known
module _ (es fs : List Known) (grows : (n : Name) → is_known es n ≡ true → is_known fs n ≡ true) where
  names_grow : (ss : List Step) → NamesKnown es ss → NamesKnown fs ss
  names_grow ss h = Each_weaker (λ s. Each (λ n. is_known es n ≡ true) (names_in s)) (λ s. Each (λ n. is_known fs n ≡ true) (names_in s)) (λ s g. Each_weaker _ _ grows (names_in s) g) ss h

  item_grow : (i : Item) → ItemKnown es i → ItemKnown fs i
  item_grow i h = (names_grow i.steps h.0, go i.forced h.1)
    where
      go : (o : Option Name) → ForcedKnown es o → ForcedKnown fs o
      go None g = tt
      go (Some d) g = grows d g

  items_grow : (is : List Item) → Each (ItemKnown es) is → Each (ItemKnown fs) is
  items_grow is h = Each_weaker (ItemKnown es) (ItemKnown fs) item_grow is h

pub append_push : (xs : List Known) (x : Known) (ys : List Known) → (xs ++ x ∷ []) ++ ys ≡ xs ++ x ∷ ys
append_push [] x ys = refl
append_push (z ∷ xs) x ys = ap (λ (zs : List Known). z ∷ zs) (append_push xs x ys)

pub append_none : (xs : List Known) → xs ++ [] ≡ xs
append_none [] = refl
append_none (x ∷ xs) = ap (λ (zs : List Known). x ∷ zs) (append_none xs)

pub map_push : (f : Known → Known) (xs : List Known) (x : Known) → map f (xs ++ x ∷ []) ≡ map f xs ++ f x ∷ []
map_push f [] x = refl
map_push f (z ∷ xs) x = ap (λ (zs : List Known). f z ∷ zs) (map_push f xs x)

cited_push : (front es : List Known) (e : Known) → AreCited front es → NamesKnown (front ++ es) e.entry.steps → AreCited front (es ++ e ∷ [])
cited_push front [] e h g = (subst (λ (zs : List Known). NamesKnown zs e.entry.steps) (append_none front) g, tt)
cited_push front (x ∷ es) e h g = (h.0, cited_push (front ++ x ∷ []) es e h.1 (subst (λ (zs : List Known). NamesKnown zs e.entry.steps) (sym (append_push front x es)) g))

cited_map : (f : Known → Known) → ((e : Known) → (f e).entry ≡ e.entry) → (front es : List Known) → AreCited front es → AreCited (map f front) (map f es)
cited_map f same front [] h = tt
cited_map f same front (e ∷ es) h = (
  subst (λ (r : Record). NamesKnown (map f front) r.steps) (sym (same e)) (names_grow front (map f front) (λ n g. known_map f same front n ∙ g) e.entry.steps h.0),
  subst (λ (zs : List Known). AreCited zs (map f es)) (map_push f front e) (cited_map f same (front ++ e ∷ []) es h.1),
)

cited_resolved : (o : Origin) (st : Status) (es : List Known) → AreCited [] es → AreCited [] (resolved o st es)
cited_resolved (origin.Input k) st es h = h
cited_resolved (origin.Task t k) st es h = h
cited_resolved (origin.Rework m) st es h = cited_map (resolve_one m st) (resolve_entry m st) [] es h

-- items of what is reworked, where the winner is known at last
reworks_known : (me : ℕ) (hit : Known → Option How) (d : Name) (fs : List Known) → is_known fs d ≡ true → (es : List Known) → Each (λ e. is_known fs e.entry.name ≡ true) es → Each (ItemKnown fs) (reworks me hit d es)
reworks_known me hit d fs known es h = Each_gather (ItemKnown fs) (λ e. rework_of me d e.entry (hit_on hit e)) es (Each_weaker (λ e. is_known fs e.entry.name ≡ true) (λ e. Each (ItemKnown fs) (cons_option (rework_of me d e.entry (hit_on hit e)) [])) (λ e g. one e.entry g (hit_on hit e)) es h)
  where
    one : (r : Record) → is_known fs r.name ≡ true → (o : Option How) → Each (ItemKnown fs) (cons_option (rework_of me d r o) [])
    one r g None = tt
    one r g (Some how.Subsumes) = tt
    one r g (Some how.Reduces) = elim (eqb r.owner me) as (λ b. Each (ItemKnown fs) (cons_option (cond b (Some (rework_item d r)) None) [])) [ true ↦ ((((g, tt), tt), known), tt) | false ↦ tt ]

all_known_here : (es fs : List Known) → ((n : Name) → is_known es n ≡ true → is_known fs n ≡ true) → Each (λ e. is_known fs e.entry.name ≡ true) es
all_known_here [] fs f = tt
all_known_here (e ∷ es) fs f = (
  f e.entry.name (rw (name_eq_refl e.entry.name) refl),
  all_known_here es fs (λ n h. f n (elim (is_of n e) as (λ b. (b || is_known es n) ≡ true) [ true ↦ refl | false ↦ h ])),
)

pub find_known : (n : Name) (es : List Known) (e : Known) → look es n ≡ Some e → is_known es e.entry.name ≡ true
find_known n [] e h = absurd cc
find_known n (x ∷ es) e h = go (is_of n x) h (find_known n es e)
  where
    more : is_known es e.entry.name ≡ true → is_known (x ∷ es) e.entry.name ≡ true
    more g = elim (is_of e.entry.name x) as (λ b. (b || is_known es e.entry.name) ≡ true) [ true ↦ refl | false ↦ g ]

    go : (b : Bool) → cond b (Some x) (look es n) ≡ Some e → (look es n ≡ Some e → is_known es e.entry.name ≡ true) → is_known (x ∷ es) e.entry.name ≡ true
    go true g rest = let s : x ≡ e = cc in subst (λ (z : Known). is_known (x ∷ es) z.entry.name ≡ true) s (rw (name_eq_refl x.entry.name) refl)
    go false g rest = more (rest g)

pub first_known : (P : Known → Type 0) (es : List Known) (e : Known) → IsFirst P es e → is_known es e.entry.name ≡ true
first_known P es e f = subst (λ (zs : List Known). is_known zs e.entry.name ≡ true) (sym f.split) (middle f.front)
  where
    middle : (xs : List Known) → is_known (xs ++ e ∷ f.back) e.entry.name ≡ true
    middle [] = rw (name_eq_refl e.entry.name) refl
    middle (x ∷ xs) = elim (is_of e.entry.name x) as (λ b. (b || is_known (xs ++ e ∷ f.back) e.entry.name) ≡ true) [ true ↦ refl | false ↦ middle xs ]

pub recorded_is_known : (n : Name) (es : List Known) (r : Record) → recorded n es ≡ Some r → is_known es n ≡ true
recorded_is_known n [] r h = absurd cc
recorded_is_known n (e ∷ es) r h = elim (is_of n e) as (λ b. cond b (Some e.entry) (recorded n es) ≡ Some r → (b || is_known es n) ≡ true) [ true ↦ λ g. refl | false ↦ λ g. recorded_is_known n es r g ] h

tidy_names : (es : List Known) (s : Step) (c : Clause) (steps : List Step) (d : Clause) → IsTidyStep s c steps d → Each (λ n. is_known es n ≡ true) (names_in s) → NamesKnown es steps
tidy_names es s c steps d (inl x) h = rw x.1 (h, tt)
tidy_names es s c steps d (inr x) h = rw x.2 (h, (tt, tt))

module _ (order : Order) (q : Premises order) (p : Problem) (policy : Policy) (n : ℕ) (R : Registry) where
  rooted_joined : (s : Local) (hit : Known → Option How) (r : Record) → NamesKnown s.known r.steps → IsRooted s → IsRooted (arrived s hit r)
  rooted_joined s hit r names h =
      let fs : List Known = struck s.me hit r.name s.known ++ held r ∷ [] in
      let same : (m : Name) → is_known (struck s.me hit r.name s.known) m ≡ is_known s.known m = known_map (strike_one s.me hit r.name) (strike_entry s.me hit r.name) s.known in
      let grows : (m : Name) → is_known s.known m ≡ true → is_known fs m ≡ true = λ m g. known_append (struck s.me hit r.name s.known) (held r ∷ []) m (same m ∙ g) in
      record {
        known = cited_push [] (struck s.me hit r.name s.known) (held r) (cited_map (strike_one s.me hit r.name) (strike_entry s.me hit r.name) [] s.known h.known)
            (names_grow s.known (struck s.me hit r.name s.known) (λ m g. same m ∙ g) r.steps names);
        pending = Each_append (ItemKnown fs) s.pending (reworks s.me hit r.name s.known) (items_grow s.known fs grows s.pending h.pending)
            (reworks_known s.me hit r.name fs (known_last (struck s.me hit r.name s.known) (held r)) s.known (all_known_here s.known fs grows));
      }

  rooted_taken : (s : Local) (place : ℕ) (i : Item) (o : Outcome) → IsRooted s → IsRooted (taken s place i o)
  rooted_taken s place i o h =
      let st = resolution o (equations_of i.steps) in
      record {
        known = cited_resolved i.origin st s.known h.known;
        pending = items_grow s.known (resolved i.origin st s.known) (λ m g. known_resolved i.origin st s.known m ∙ g) (remove s.pending place) (Each_remove (ItemKnown s.known) s.pending place h.pending);
      }

  rooted_keep : (s : Local) (place : ℕ) (i : Item) (o : Outcome) (hit : Known → Option How) → slice_get s.pending place ≡ Some i → IsRooted s → IsRooted (kept s place i o hit)
  rooted_keep s place i (Named m) hit there h =
      let st = resolution (Named m) (equations_of i.steps) in
      let names = (Each_at (ItemKnown s.known) s.pending place i there h.pending).0 in
      let a = rooted_joined (taken s place i (Named m)) hit (new_record s i)
      (names_grow s.known (resolved i.origin st s.known) (λ k g. known_resolved i.origin st s.known k ∙ g) i.steps names) (rooted_taken s place i (Named m) h) in
      record { known = a.known; pending = a.pending }
  rooted_keep s place i Trivial hit there h = rooted_taken s place i Trivial h
  rooted_keep s place i (Subsumed d) hit there h = rooted_taken s place i (Subsumed d) h

  rooted_body : (s : Local) (b : Body) (o : Option Hit) (hit : Known → Option How) → body_ready s.known b ≡ true → (sender : ℕ) → BodyFine order p s sender b → BodyHits order s b o hit → IsRooted s → IsRooted (admitted_body s b o hit)
  rooted_body s (body.Kept r) None hit ready sender fine hits h =
      let names = cites_all (λ m. is_known s.known m ≡ true) r.steps (subst (λ (ns : List Name). Each (λ m. is_known s.known m ≡ true) ns) fine.cites (each_of_each (is_known s.known) r.cites ready)) in
      let a = rooted_joined s hit r names h in record { known = a.known; pending = a.pending }
  rooted_body s (body.Kept r) (Some x) hit ready sender fine hits h =
      let names = cites_all (λ m. is_known s.known m ≡ true) r.steps (subst (λ (ns : List Name). Each (λ m. is_known s.known m ≡ true) ns) fine.cites (each_of_each (is_known s.known) r.cites ready)) in
      let e : Known = record { entry = r; status = loss s.me x.by x.how r } in
      let fs : List Known = s.known ++ e ∷ [] in
      let grows : (m : Name) → is_known s.known m ≡ true → is_known fs m ≡ true = known_append s.known (e ∷ []) in
      let by : is_known s.known x.by ≡ true = (let f = hits.0 in let k = first_known (IsBeater order x.how r) s.known f.0 f.1 in subst (λ (m : Name). is_known s.known m ≡ true) (sym f.2) k) in
      record {
        known = cited_push [] s.known e h.known names;
        pending = Each_append (ItemKnown fs) s.pending (cons_option (rework_of s.me x.by r (Some x.how)) []) (items_grow s.known fs grows s.pending h.pending) (one fs x.how (known_last s.known e) (grows x.by by));
      }
    where
      one : (fs : List Known) (w : How) → is_known fs r.name ≡ true → is_known fs x.by ≡ true → Each (ItemKnown fs) (cons_option (rework_of s.me x.by r (Some w)) [])
      one fs how.Subsumes a b = tt
      one fs how.Reduces a b = elim (eqb r.owner s.me) as (λ c. Each (ItemKnown fs) (cons_option (cond c (Some (rework_item x.by r)) None) [])) [ true ↦ ((((a, tt), tt), b), tt) | false ↦ tt ]
  rooted_body s (body.Notice of by w) o hit ready sender fine hits h =
      let same : (m : Name) → is_known (struck s.me (named_hit of w) by s.known) m ≡ is_known s.known m = known_map (strike_one s.me (named_hit of w) by) (strike_entry s.me (named_hit of w) by) s.known in
      let fs : List Known = struck s.me (named_hit of w) by s.known in
      let grows : (m : Name) → is_known s.known m ≡ true → is_known fs m ≡ true = λ m g. same m ∙ g in
      record {
        known = cited_map (strike_one s.me (named_hit of w) by) (strike_entry s.me (named_hit of w) by) [] s.known h.known;
        pending = Each_append (ItemKnown fs) s.pending (reworks s.me (named_hit of w) by s.known) (items_grow s.known fs grows s.pending h.pending)
            (reworks_known s.me (named_hit of w) by fs (grows by (and_true (is_known s.known of) (is_known s.known by) ready).1) s.known (all_known_here s.known fs grows));
      }
  rooted_body s (body.Token t) o hit ready sender fine hits h = record { known = h.known; pending = h.pending }

  rewriter_known : (s : Local) (f : Option Name) (c : Clause) (e : Known) → IsRewriter order s.known f c e → is_known s.known e.entry.name ≡ true
  rewriter_known s None c e w = first_known (IsReducer order c) s.known e w
  rewriter_known s (Some d) c e w = find_known d s.known e w

  -- the names of conclusions are known here
  items_known : (s : Local) (task : Task) (m : ℕ) (cs : List Conclusion) (items : List Item) → Each (IsRightConclusion p (registry_of s)) cs → AreTaskItems task m cs items → Each (ItemKnown s.known) items
  items_known s task m [] items right are = rw are tt
  items_known s task m (c ∷ cs) items right are =
      rw are.4 (
        (
          tidy_names s.known c.step c.clause are.0.steps are.0.clause are.2.2
              (Each_weaker (λ k. (r : Record) × (registry_of s k ≡ Some r)) (λ k. is_known s.known k ≡ true) (λ k g. recorded_is_known k s.known g.0 g.1) (names_in c.step) (q.replay_names p (registry_of s) None c.step c.clause right.0.2)),
          subst (ForcedKnown s.known) (sym are.2.1) tt,
        ),
        items_known s task (m + 1) cs are.1 right.1 are.3,
      )

  rooted_acted : (s : Local) → IsTrue order p policy n R s → (a : Act) (f : Found a) → Fits order p s a f → IsRooted s → IsRooted (acted s a f)
  rooted_acted s t (Rewrite k) f fits h = record {
    known = h.known;
    pending = Each_set (ItemKnown s.known) s.pending k (reworked f) h.pending (
      Each_append (λ st. Each (λ m. is_known s.known m ≡ true) (names_in st)) f.item.steps f.steps (Each_at (ItemKnown s.known) s.pending k f.item fits.there h.pending).0
          (tidy_names s.known (step.Rewrite f.equation.entry.name f.side f.literal f.path f.subst) f.reduct f.steps f.clause fits.tidy ((rewriter_known s f.item.forced f.item.clause f.equation fits.rewriter), tt)),
      tt,
    );
  }
  rooted_acted s t (Keep k) f fits h = rooted_keep s k f.item f.outcome f.hit fits.there h
  rooted_acted s t (Receive l) f fits h = record { known = h.known; pending = h.pending }
  rooted_acted s t (Admit k) f fits h = rooted_body (unshelved s k) f.letter.body f.forward f.hit fits.ready f.letter.sender (fine f.letter.body fits.fine.3) (hits f.letter.body fits.hits) (record { known = h.known; pending = h.pending })
    where
      fine : (b : Body) → BodyFine order p s f.letter.sender b → BodyFine order p (unshelved s k) f.letter.sender b
      fine (body.Kept r) x = record { unknown = x.unknown; issuer = x.issuer; owner = x.owner; shape = x.shape; behind_copy = x.behind_copy; cites = x.cites; share = x.share; leads = x.leads; tidy = x.tidy; fit = x.fit; no_tautology = x.no_tautology }
      fine (body.Notice a b w) x = x
      fine (body.Token y) x = x

      hits : (b : Body) → BodyHits order s b f.forward f.hit → BodyHits order (unshelved s k) b f.forward f.hit
      hits (body.Kept r) x = x
      hits (body.Notice a b w) x = x
      hits (body.Token y) x = x
  rooted_acted s t (Reject k) f fits h = record { known = h.known; pending = h.pending }
  rooted_acted s t (Work task) f fits h = record {
    known = h.known;
    pending = Each_append (ItemKnown s.known) s.pending f.items h.pending (items_known s task 0 f.found f.items (local_right order q p policy n R s t task f.found fits.1.concludes fits.1.within) fits.1.items);
  }
  rooted_acted s t Pass f fits h = elim (eqb s.peers 1) as (λ b. IsRooted (cond b (record s { token = Some (passed s.peers s.count f) }) (record s { token = None })))
      [ true ↦ record { known = h.known; pending = h.pending } | false ↦ record { known = h.known; pending = h.pending } ]
  rooted_acted s t Declare f fits h = record { known = h.known; pending = h.pending }
  rooted_acted s t (End v) f fits h = record { known = h.known; pending = h.pending }

  -- what is cited leads
  led : (front es : List Known) → Each (TrueKnown order p policy n R 0) [] → ((m : Name) (r : Record) → recorded m front ≡ Some r → R m ≡ Some r) → (me : ℕ) → Each (TrueKnown order p policy n R me) es → AreCited front es → AreLed p front es
  led front [] u reg me t h = tt
  led front (e ∷ es) u reg me t h = (
    (lead_here front reg None e.entry.steps e.entry.clause h.0 t.0.right.leads, t.0.right.shape, t.0.right.cites),
    led (front ++ e ∷ []) es u (λ m r g. more front e reg t.0 m r g) me t.1 h.1,
  )
    where
      lead_here : (front : List Known) → ((m : Name) (r : Record) → recorded m front ≡ Some r → R m ≡ Some r) → (current : Option Clause) (ss : List Step) (c : Clause) → NamesKnown front ss → Lead p R current ss c → Lead p (λ m. recorded m front) current ss c
      lead_here front reg current [] c names x = x
      lead_here front reg current (s ∷ ss) c names x = (
        x.0,
        q.replay_grows p R (λ m. recorded m front) current s x.0
            (Each_weaker (λ m. is_known front m ≡ true) (λ m. (r : Record) → R m ≡ Some r → recorded m front ≡ Some r)
            (λ m y r g. (let z = recorded_known m front y in let same : Some z.0 ≡ Some r = sym (reg m z.0 z.1) ∙ g in z.1 ∙ same)) (names_in s) names.0) x.1,
        lead_here front reg (Some x.0) ss c names.1 x.2,
      )

      more : (front : List Known) (e : Known) → ((m : Name) (r : Record) → recorded m front ≡ Some r → R m ≡ Some r) → TrueKnown order p policy n R me e → (m : Name) (r : Record) → recorded m (front ++ e ∷ []) ≡ Some r → R m ≡ Some r
      more front e reg t m r g =
          elim (recorded_back m front e r g) [
            | inl x ↦ reg m r x
            | inr x ↦ (let nm = recorded_named m (front ++ e ∷ []) r g in ap R (sym nm ∙ ap (λ (c : Record). c.name) (sym x)) ∙ t.genuine ∙ ap Some x)
          ]

module _ (order : Order) (q : Premises order) (p : Problem) (policy : Policy) where
  rooted_run : (es : List Event) (w v : World) → Run order p w es v → IsSound order p policy w → ((k : ℕ) → k < length w.locals → IsRooted (at w k)) → (k : ℕ) → k < length v.locals → IsRooted (at v k)
  rooted_run [] w v r i h = subst (λ (z : World). (k : ℕ) → k < length z.locals → IsRooted (at z k)) (sym r) h
  rooted_run (e ∷ es) w v r i h = rooted_run es r.0 v r.2 (step_sound order q p policy w e r.0 r.1 i)
      (at_each order p w e r.0 r.1 (λ k s. IsRooted s)
      (let a = rooted_acted order q p policy (length w.locals) (record_of w) (at w e.peer) (i.truth.locals e.peer r.1.in_range) e.act r.1.found r.1.legal.fits (h e.peer r.1.in_range) in record { known = a.known; pending = a.pending })
      (λ k l ne. h k l))

  share_known : (me n k : ℕ) (cs : List Clause) (items : List Item) → AreShare me n k cs items → Each (ItemKnown []) items
  share_known me n k [] items are = rw are tt
  share_known me n k (c ∷ cs) items (inl x) = rw x.1.4 ((tidy_names [] (step.Input k) c x.1.0.steps x.1.0.clause x.1.2.2 tt, subst (ForcedKnown []) (sym x.1.2.1) tt), share_known me n (k + 1) cs x.1.1 x.1.3)
  share_known me n k (c ∷ cs) items (inr x) = share_known me n (k + 1) cs items x.1

pub runs_led : (order : Order) → RunsAreLed order
runs_led order q p policy limits start w es s r k l =
    let i0 = start_sound order q p policy limits s.fit start s in
    let i = run_sound order q p policy es start w r i0 in
    let h = rooted_run order q p policy es start w r i0 (λ j m. (let f = s.fresh j m in rw f.2 (record { known = tt; pending = share_known order q p policy j (length start.locals) 0 (clauses_of p) f.0 f.1 }))) k l in
    (led order q p policy (length w.locals) (record_of w) [] (at w k).known tt (λ m c x. absurd (let z : None ≡ Some c = x in cc)) (at w k).me (i.truth.locals k l).known h.known, h.pending)
