-- Each act keeps the truth of its peer, and its letters are true.
use Rattle.std.proofs.Common.{◌≡◌, ℕ, suc, ◌+◌, ◌^◌, ◌<◌, ◌≤◌, ◌≢◌, Bool, true, false, ◌&&◌, cond, eqb, ltb, List, [], ◌∷◌, ◌++◌, length, arith, refl, ap, sym, ◌∙◌, subst, inl, inr}
use Rattle.std.specs.Prelude.{slice_get, Option, Some, None}
use Rattle.std.specs.List.{flat_map}
use Rattle.std.proofs.lemmas.List.{length-append}
use Rattle.std.proofs.lemmas.Bool.{eqb-true}
use Rattle.std.proofs.lemmas.Bool.Decides.{nat_tests}
use Rattle.cd_steps.specs.declared.Step.TheVariants as step
use Rattle.cd_ledger.specs.declared.items.Origin.TheVariants as origin
use Rattle.cd_ledger.specs.declared.letters.Body.TheVariants as body
use Rattle.cd_clause.specs.declared.Clause.{Clause}
use Rattle.cd_names.specs.declared.names.Name.{Name}
use Rattle.cd_steps.specs.declared.Step.{Step}
use Rattle.cd_names.specs.declared.How.{How}
use Rattle.cd_contract.specs.declared.held.Hit.{Hit}
use Rattle.cd_tasks.specs.declared.Task.{Task}
use Rattle.cd_tasks.specs.declared.Task.TheVariants.{Pair, Solo}
use Rattle.cd_ledger.specs.declared.items.Origin.{Origin}
use Rattle.cd_infer.specs.declared.Conclusion.{Conclusion}
use Rattle.cd_ledger.specs.declared.items.Item.{Item}
use Rattle.cd_ledger.specs.declared.records.Record.{Record}
use Rattle.cd_ledger.specs.declared.records.Known.{Known}
use Rattle.cd_ledger.specs.declared.items.Outcome.{Outcome}
use Rattle.cd_ledger.specs.declared.items.Outcome.TheVariants.{Named, Subsumed, Trivial}
use Rattle.cd_names.specs.declared.waves.Count.{Count}
use Rattle.cd_names.specs.declared.waves.Token.{Token}
use Rattle.cd_ledger.specs.declared.letters.Body.{Body}
use Rattle.cd_ledger.specs.declared.letters.Letter.{Letter}
use Rattle.cd_ledger.specs.declared.events.Verdict.{Verdict}
use Rattle.cd_ledger.specs.declared.events.Verdict.TheVariants.{Saturated}
use Rattle.cd_names.specs.declared.ownership.Policy.{Policy}
use Rattle.cd_ledger.specs.declared.events.Act.{Act}
use Rattle.cd_ledger.specs.declared.events.Act.TheVariants.{Admit, Declare, End, Keep, Pass, Receive, Reject, Rewrite, Work}
use Rattle.cd_ledger.specs.declared.events.Event.{Event}
use Rattle.cd_ledger.specs.declared.local.Local.{Local}
use Rattle.std.specs.List.{AllByRecursion as Each}
use Rattle.cd_read.specs.declared.problem.Problem.{Problem}
use Rattle.cd_ledger.specs.Records.{GoesOnBehindCopy, IsShape, Registry, begins, is_copy, is_of, look, owner_by, used_in}
use Rattle.cd_machine.specs.Rules.{Falls, IsConclusionWithin, IsFit}
use Rattle.cd_machine.specs.Fits.{BodyHits, Fits, KeepHits, OutcomeFits, RewriteFits}
use Rattle.cd_machine.specs.Right.{IsTidyStep, registry_of}
use Rattle.cd_machine.specs.Arrivals.{arrived, new_record, next_name, refuted_by, shelved}
use Rattle.cd_ledger.specs.Statuses.{is_held}
use Rattle.cd_machine.specs.Contraction.{hit_on, lost, named_hit, notices}
use Rattle.cd_machine.specs.Acts.{AreTaskItems, Concludes, IsItemOf, IsYield, Rewritten, Yield, admitted_body, body_letters, broadcast, keep_letters, kept, reworked, rewritten, taken, unshelved, worked}
use Rattle.cd_machine.specs.Tokens.{passed, passed_by, token_letters}
use Rattle.cd_machine.specs.Events.{Found, acted, sent_by}
use Rattle.cd_machine.specs.Hits.{IsBeater, IsBelow, IsForward, IsReducer, IsRewriter}
use Rattle.cd_laws.specs.Premises.{IsRightConclusion, Premises}
use Rattle.cd_laws.specs.Sound.{Beaten, BeginsWith, BehindCopy, ForcedFits, FromOrigin, IsMine, IsTrue, ItemFalls, NameBelow, TrueBody, TrueDone, TrueItem, TrueKnown, TrueLetter, TrueNotice, TrueToken}
use Rattle.cd_laws.specs.Closing.{has}
use Rattle.cd_laws.proofs.Lists.{Each_append, Each_at, Each_first, Each_push, Each_remove, Each_set, Each_weaker, find_is, found}
use Rattle.cd_laws.proofs.Steps.{name_eq_true}
use Rattle.cd_laws.proofs.Truth.{Registers, append_begins, behind_append, eqb_false, flat_append, hits_true, lead_append, local_registry, recorded_true, right_new, shape_append, tidy_fits, tidy_leads, tidy_tidied, true_broadcast, true_joined, true_lost, true_notice, true_notices, true_shelved, true_taken}
use Rattle.cd_kbo.specs.declared.order.Order.{Order}

used_all : (P : Name → Type 0) (s : Step) (c : Clause) (steps : List Step) (d : Clause) → IsTidyStep s c steps d → Each P (used_in s) → Each P (flat_map used_in steps)
used_all P s c steps d (inl x) h = rw x.1 (Each_append P (used_in s) [] h tt)
used_all P s c steps d (inr x) h = rw x.2 (Each_append P (used_in s) [] h tt)

tidy_goes_on : (s : Step) (c : Clause) (steps : List Step) (d : Clause) → IsTidyStep s c steps d → begins s ≡ false → Each (λ t. begins t ≡ false) steps
tidy_goes_on s c steps d (inl x) h = rw x.1 (h, tt)
tidy_goes_on s c steps d (inr x) h = rw x.2 (h, (refl, tt))

pub tidy_shape : (s : Step) (c : Clause) (steps : List Step) (d : Clause) → IsTidyStep s c steps d → begins s ≡ true → IsShape steps
tidy_shape s c steps d (inl x) h = rw x.1 (h, tt)
tidy_shape s c steps d (inr x) h = rw x.2 (h, (refl, tt))

pub tidy_begins : (s : Step) (c : Clause) (steps : List Step) (d : Clause) → IsTidyStep s c steps d → BeginsWith s steps
tidy_begins s c steps d (inl x) = rw x.1 refl
tidy_begins s c steps d (inr x) = rw x.2 refl

pub tidy_behind : (s : Step) (c : Clause) (steps : List Step) (d : Clause) → IsTidyStep s c steps d → is_copy s ≡ false → GoesOnBehindCopy steps
tidy_behind s c steps d (inl x) h = rw x.1 h
tidy_behind s c steps d (inr x) h = rw x.2 tt

pub append_behind : (xs : List Step) (s : Step) (c : Clause) (steps : List Step) (d : Clause) → IsTidyStep s c steps d → IsShape xs → GoesOnBehindCopy (xs ++ steps)
append_behind xs s c steps d (inl x) h = rw x.1 (behind_append xs s [] h)
append_behind xs s c steps d (inr x) h = rw x.2 (behind_append xs s (step.Tidy ∷ []) h)

next_other : (s : Local) → 0 < s.peers → s.peers ≢ 1 → s.me < s.peers → s.me ≢ cond (eqb (s.me + 1) s.peers) 0 (s.me + 1)
next_other s pos one l = go (eqb (s.me + 1) s.peers) refl
  where
    go : (b : Bool) → eqb (s.me + 1) s.peers ≡ b → s.me ≢ cond b 0 (s.me + 1)
    go true e x = let f = eqb-true (s.me + 1) s.peers e in one (omega (arith, f, x))
    go false e x = absurd (omega (arith, x))

next_range : (s : Local) → s.me < s.peers → cond (eqb (s.me + 1) s.peers) 0 (s.me + 1) < s.peers
next_range s l = go (eqb (s.me + 1) s.peers) refl
  where
    go : (b : Bool) → eqb (s.me + 1) s.peers ≡ b → cond b 0 (s.me + 1) < s.peers
    go true e = omega (arith, l)
    go false e = (let f = eqb_false (s.me + 1) s.peers e in omega (arith, l, f))

-- the token's lists stay short
passed_short : (n : ℕ) (c : Count) (t : Token) → 0 < n → length t.one ≤ n → length t.two ≤ n → TrueToken n (Some (passed n c t))
passed_short n c t pos a b = turn (eqb (length t.one) n) (eqb (length t.two) n) refl refl
  where
    put' : (u : Token) → length u.one ≤ n → (length u.one ≡ n → length u.two < n) → length u.two ≤ n
        → (length (cond (ltb (length u.one) n) (record u { one = u.one ++ c ∷ [] }) (record u { two = u.two ++ c ∷ [] })).one ≤ n)
        × (length (cond (ltb (length u.one) n) (record u { one = u.one ++ c ∷ [] }) (record u { two = u.two ++ c ∷ [] })).two ≤ n)
    put' u x y z = go (ltb (length u.one) n) refl
      where
        go : (v : Bool) → ltb (length u.one) n ≡ v → (length (cond v (record u { one = u.one ++ c ∷ [] }) (record u { two = u.two ++ c ∷ [] })).one ≤ n) × (length (cond v (record u { one = u.one ++ c ∷ [] }) (record u { two = u.two ++ c ∷ [] })).two ≤ n)
        go true e = (let l = length-append u.one (c ∷ []) in let m : length u.one < n = grind (arith, nat_tests, e) in omega (arith, l, m), z)
        go false e = (x, (let l = length-append u.two (c ∷ []) in let m : n ≤ length u.one = grind (arith, nat_tests, e) in let k = y (omega (arith, m, x)) in omega (arith, l, k)))

    turn : (x y : Bool) → eqb (length t.one) n ≡ x → eqb (length t.two) n ≡ y
        → TrueToken n (Some (cond (ltb (length (cond (x && y) (record { one = t.two; two = [] }) t).one) n) (record (cond (x && y) (record { one = t.two; two = [] }) t) { one = (cond (x && y) (record { one = t.two; two = [] }) t).one ++ c ∷ [] }) (record (cond (x && y) (record { one = t.two; two = [] }) t) { two = (cond (x && y) (record { one = t.two; two = [] }) t).two ++ c ∷ [] })))
    turn true true e f = put' (record { one = t.two; two = [] }) b (λ z. omega (arith, pos)) (omega arith)
    turn true false e f = put' t a (λ z. (let g : length t.two ≢ n = eqb_false (length t.two) n f in omega (arith, b, g))) b
    turn false y e f = put' t a (λ z. absurd (eqb_false (length t.one) n e z)) b

module _ (order : Order) (q : Premises order) (p : Problem) (policy : Policy) (n : ℕ) (R : Registry) where
  -- the equation of a rewriting
  true_equation : (s : Local) (i : Item) (e : Known) → IsRewriter order s.known i.forced i.clause e → IsTrue order p policy n R s → TrueKnown order p policy n R s.me e
  true_equation s i e w t = go i.forced w
    where
      go : (f : Option Name) → IsRewriter order s.known f i.clause e → TrueKnown order p policy n R s.me e
      go None w = (Each_first (IsReducer order i.clause) (TrueKnown order p policy n R s.me) s.known e w t.known).1
      go (Some d) w = (find_is (TrueKnown order p policy n R s.me) (is_of d) s.known e w t.known).0

  equation_name : (s : Local) (d : Name) (e : Known) → look s.known d ≡ Some e → IsTrue order p policy n R s → e.entry.name ≡ d
  equation_name s d e w t = name_eq_true e.entry.name d (find_is (TrueKnown order p policy n R s.me) (is_of d) s.known e w t.known).1

  -- it has a smaller key than what is reworked
  equation_below : (s : Local) (f : Option Name) (c : Clause) (e : Known) (r : Record) → IsRewriter order s.known f c e → IsTrue order p policy n R s → TrueKnown order p policy n R s.me e → ForcedFits order R r c f → IsBelow order e.entry r
  equation_below s None c e r w t x h =
      let g = Each_first (IsReducer order c) (TrueKnown order p policy n R s.me) s.known e w t.known in
      q.key_trans e.entry.clause c r.clause (Some e.entry.name) None (Some r.name) g.0.1 (h None (Some r.name))
  equation_below s (Some d) c e r w t x h =
      let same : Some h.1.winner ≡ Some e.entry = sym h.1.recorded ∙ ap R (sym (equation_name s d e w t)) ∙ x.genuine in
      let same' : h.1.winner ≡ e.entry = cc in
      subst (λ (z : Record). (IsBelow order) z r) same' h.1.below

  fallen : (r : Record) (c x : Clause) (f : Option Name) → ForcedFits order R r c f → Falls order x c → Falls order x r.clause
  fallen r c x None h g = λ m n. q.key_trans x c r.clause m None n (g m None) (h None n)
  fallen r c x (Some d) h g = subst (Falls order x) h.0 g

  rework_from : (s : Local) (o : Origin) (i : Item) (e : Known) (by : Step) (c : Clause) (more : List Step) (d : Clause) → used_in by ≡ e.entry.name ∷ [] → IsTidyStep by c more d
      → IsRewriter order s.known i.forced i.clause e → IsTrue order p policy n R s → TrueKnown order p policy n R s.me e → FromOrigin order R s.me o i.steps → ItemFalls order R o i.forced i.clause → FromOrigin order R s.me o (i.steps ++ more)
  rework_from s (origin.Input k) i e by c more d u tidy w t x from_origin falls = append_begins (step.Input k) i.steps more from_origin
  rework_from s (origin.Task a k) i e by c more d u tidy w t x from_origin falls = record { found = from_origin.found; conclusion = from_origin.conclusion; concludes = from_origin.concludes; there = from_origin.there; begins = append_begins from_origin.conclusion.step i.steps more from_origin.begins }
  rework_from s (origin.Rework m) i e by c more d u tidy w t x from_origin falls =
      let same : Some falls.0 ≡ Some from_origin.loser = sym falls.1 ∙ from_origin.recorded in
      let same' : falls.0 ≡ from_origin.loser = cc in
      let below : IsBelow order e.entry from_origin.loser = subst (λ (z : Record). (IsBelow order) e.entry z) same' (equation_below s i.forced i.clause e falls.0 w t x falls.2) in
      record {
        loser = from_origin.loser;
        recorded = from_origin.recorded;
        owner = from_origin.owner;
        begins = append_begins (step.Copy m) i.steps more from_origin.begins;
        below = flat_append i.steps more (NameBelow order R from_origin.loser) from_origin.below
            (used_all (NameBelow order R from_origin.loser) by c more d tidy (subst (λ (ms : List Name). Each (NameBelow order R from_origin.loser) ms) (sym u) ((e.entry, x.genuine, below), tt)));
      }

  rework_falls : (s : Local) (o : Origin) (f : Option Name) (c x : Clause) → ItemFalls order R o f c → Falls order x c → ItemFalls order R o None x
  rework_falls s (origin.Input k) f c x h g = tt
  rework_falls s (origin.Task a k) f c x h g = tt
  rework_falls s (origin.Rework m) f c x h g = (h.0, h.1, fallen h.0 c x f h.2 g)

  true_rewritten : (s : Local) (place : ℕ) (r : Rewritten) → RewriteFits order s place r → IsTrue order p policy n R s → IsTrue order p policy n R (rewritten s place r)
  true_rewritten s place r fits t =
      let i = r.item in
      let by : Step = step.Rewrite r.equation.entry.name r.side r.literal r.path r.subst in
      let x = Each_at (TrueItem order p R s.me) s.pending place i fits.there t.pending in
      let e = true_equation s i r.equation fits.rewriter t in
      let rep = q.replay_rewrite p R r.equation.entry.name r.equation.entry i.clause r.side r.literal r.path r.subst r.reduct e.genuine e.right.fit e.right.tidy x.fit x.tidy fits.reduces fits.within in
      let td = tidy_tidied order q p policy n R by r.reduct r.steps r.clause fits.tidy in
      record {
        known = t.known;
        waiting = t.waiting;
        mine = t.mine;
        pending = Each_set (TrueItem order p R s.me) s.pending place (reworked r) t.pending (record {
          from_origin = rework_from s i.origin i r.equation by r.reduct r.steps r.clause refl fits.tidy fits.rewriter t e x.from_origin x.falls;
          falls = rework_falls s i.origin i.forced i.clause r.clause x.falls (q.reduct_falls r.equation.entry.clause i.clause r.side r.literal r.path r.subst r.reduct r.clause fits.reduces td.0);
          leads = lead_append order q p policy n R None i.steps r.steps i.clause r.clause x.leads
              (tidy_leads order q p policy n R (Some i.clause) by r.reduct r.steps r.clause rep.1 rep.0 fits.tidy);
          shape = shape_append i.steps r.steps x.shape (tidy_goes_on by r.reduct r.steps r.clause fits.tidy refl);
          behind_copy = append_behind i.steps by r.reduct r.steps r.clause fits.tidy x.shape;
          tidy = td.1;
          fit = tidy_fits order q p policy n R by r.reduct r.steps r.clause rep.1 fits.tidy;
        });
        settled = t.settled;
        done = t.done;
        token = t.token;
        owed = t.owed;
      }

  -- the items of a task
  task_items : (me : ℕ) (task : Task) (found : List Conclusion) → Concludes order R task found → (m : ℕ) (cs : List Conclusion) → ((j : ℕ) (c : Conclusion) → slice_get cs j ≡ Some c → slice_get found (m + j) ≡ Some c)
      → Each (IsRightConclusion p R) cs → (items : List Item) → AreTaskItems task m cs items → Each (TrueItem order p R me) items
  task_items me task found concludes m [] get right items are = rw are tt
  task_items me task found concludes m (c ∷ cs) get right items are =
      rw are.4 (one are.0 are.2, task_items me task found concludes (m + 1) cs (λ j d g. (let e : m + suc j ≡ m + 1 + j = omega arith in subst (λ (z : ℕ). slice_get found z ≡ Some d) e (get (suc j) d g))) right.1 are.1 are.3)
    where
      here : slice_get found m ≡ Some c
      here = let e : m + 0 ≡ m = omega arith in subst (λ (z : ℕ). slice_get found z ≡ Some c) e (get 0 c refl)

      one : (i : Item) → IsItemOf (origin.Task task m) c.step c.clause i → TrueItem order p R me i
      one i is = record {
        from_origin = subst (λ (o : Origin). (FromOrigin order) R me o i.steps) (sym is.0) (record { found = found; conclusion = c; concludes = concludes; there = here; begins = tidy_begins c.step c.clause i.steps i.clause is.2 });
        falls = subst (λ (o : Origin). (ItemFalls order) R o i.forced i.clause) (sym is.0) tt;
        leads = tidy_leads order q p policy n R None c.step c.clause i.steps i.clause right.0.3 right.0.2 is.2;
        shape = tidy_shape c.step c.clause i.steps i.clause is.2 right.0.0;
        behind_copy = subst (λ (f : Option Name). BehindCopy f i.steps) (sym is.1) (tidy_behind c.step c.clause i.steps i.clause is.2 right.0.1);
        tidy = (tidy_tidied order q p policy n R c.step c.clause i.steps i.clause is.2).1;
        fit = tidy_fits order q p policy n R c.step c.clause i.steps i.clause right.0.3 is.2;
      }

  pub known_fit : (s : Local) → IsTrue order p policy n R s → (a : Name) (r : Record) → registry_of s a ≡ Some r → IsFit p r.clause
  known_fit s h a r x = let z = recorded_true (TrueKnown order p policy n R s.me) a s.known r h.known x in subst (λ (c : Record). IsFit p c.clause) z.2 z.1.right.fit

  concluded : (s : Local) → IsTrue order p policy n R s → (t : Task) (found : List Conclusion) → Concludes order (registry_of s) t found → Concludes order R t found
  concluded s h (Solo a) found x = (x.0, local_registry order q p policy n R s.me s.known h.known a x.0 x.1, x.2)
  concluded s h (Pair a b) found x = (x.0, x.1, local_registry order q p policy n R s.me s.known h.known a x.0 x.2, local_registry order q p policy n R s.me s.known h.known b x.1 x.3, x.4)

  conclusions_right : (s : Local) → IsTrue order p policy n R s → (t : Task) (found : List Conclusion) → Concludes order (registry_of s) t found → Each IsConclusionWithin found → Each (IsRightConclusion p R) found
  conclusions_right s k (Solo a) found x h = q.solo_right p R a x.0 found (local_registry order q p policy n R s.me s.known k.known a x.0 x.1) (known_fit s k a x.0 x.1) x.2 h
  conclusions_right s k (Pair a b) found x h = q.pair_right p R a b x.0 x.1 found (local_registry order q p policy n R s.me s.known k.known a x.0 x.2) (local_registry order q p policy n R s.me s.known k.known b x.1 x.3) (known_fit s k a x.0 x.2) (known_fit s k b x.1 x.3) x.4 h

  true_worked : (s : Local) (task : Task) (y : Yield) → IsYield order s task y → IsTrue order p policy n R s → IsTrue order p policy n R (worked s task y)
  true_worked s task y is t =
      let c = concluded s t task y.found is.concludes in
      record {
        known = t.known;
        waiting = t.waiting;
        mine = t.mine;
        pending = Each_append (TrueItem order p R s.me) s.pending y.items t.pending
            (task_items s.me task y.found c 0 y.found (λ j d g. (let e : j ≡ 0 + j = omega arith in subst (λ (z : ℕ). slice_get y.found z ≡ Some d) e g)) (conclusions_right s t task y.found is.concludes is.within) y.items is.items);
        settled = t.settled;
        done = Each_push (TrueDone order R s.me) s.done (record { task = task; conclusions = length y.found }) t.done (y.found, c, refl, Each_at (IsMine R s.me) s.owed is.takes.place task is.takes.there t.owed);
        owed = subst (λ (ts : List Task). Each (IsMine R s.me) ts) (sym is.takes.rest) (Each_remove (IsMine R s.me) s.owed is.takes.place t.owed);
        token = t.token;
      }

  true_frame : (s : Local) (c : Count) (m u k : ℕ) (v : Option Verdict) (j : List Event) → IsTrue order p policy n R s → IsTrue order p policy n R (record s { count = c; next_seq = m; units = u; clock = k; verdict = v; journal = j })
  true_frame s c m u k v j t = record { known = t.known; waiting = t.waiting; mine = t.mine; pending = t.pending; settled = t.settled; done = t.done; token = t.token; owed = t.owed }

  true_waiting : (s : Local) (place : ℕ) → IsTrue order p policy n R s → IsTrue order p policy n R (unshelved s place)
  true_waiting s place t = record { known = t.known; waiting = Each_remove (TrueLetter order p policy n R) s.waiting place t.waiting; mine = Each_remove (λ l. l.to ≡ s.me) s.waiting place t.mine; pending = t.pending; settled = t.settled; done = t.done; token = t.token; owed = t.owed }

  notice_hits : (me to : ℕ) (of by : Name) (h : How) (es : List Known) → TrueNotice order R to of by h → Each (TrueKnown order p policy n R me) es → Each (λ e. (w : How) → hit_on (named_hit of h) e ≡ Some w → Beaten order R e.entry by w) es
  notice_hits me to of by h es x t = Each_weaker (TrueKnown order p policy n R me) (λ e. (w : How) → hit_on (named_hit of h) e ≡ Some w → Beaten order R e.entry by w) (λ e k w z. go e k w (is_held e) (is_of of e) refl z) es t
    where
      go : (e : Known) → TrueKnown order p policy n R me e → (w : How) (a b : Bool) → is_of of e ≡ b → cond a (cond b (Some h) None) None ≡ Some w → Beaten order R e.entry by w
      go e k w true true y z =
          let f : Some x.loser ≡ Some e.entry = sym x.recorded ∙ ap R (sym (name_eq_true e.entry.name of y)) ∙ k.genuine in
          let same : x.loser ≡ e.entry = cc in
          let how' : h ≡ w = cc in
          subst (Beaten order R e.entry by) how' (subst (λ (c : Record). (Beaten order) R c by h) same x.lost)
      go e k w true false y z = absurd cc
      go e k w false b y z = absurd cc

  forward_beaten : (s : Local) (r : Record) (h : Hit) → IsForward order r s.known (Some h) → IsTrue order p policy n R s → Beaten order R r h.by h.how
  forward_beaten s r h f t =
      let e = f.0 in
      let x = Each_first (IsBeater order h.how r) (TrueKnown order p policy n R s.me) s.known e f.1 t.known in
      record { winner = e.entry; recorded = ap R f.2 ∙ x.1.genuine; below = x.0.1; hits = x.0.2 }

  module _ (s : Local) (time : ℕ) (peers : s.peers ≡ n) (pol : s.policy ≡ policy) (l : s.me < n) (tm : time < 2 ^ 63) (t : IsTrue order p policy n R s) where
    true_keep : (place : ℕ) (i : Item) (o : Outcome) (hit : Known → Option How) → owner_by policy n (next_name s) i.clause < n → slice_get s.pending place ≡ Some i → i.forced ≡ None → OutcomeFits s i o
        → KeepHits order s place i o hit → Registers order q p policy n R s i o
        → IsTrue order p policy n R (kept s place i o hit) × Each (TrueLetter order p policy n R) (keep_letters s time place i o hit)
    true_keep place i (Named m) hit in' there free fits hits reg =
        let x = Each_at (TrueItem order p R s.me) s.pending place i there t.pending in
        let right = right_new order q p policy n R s i peers pol in' x free fits.0 in
        let u = taken s place i (Named m) in
        let tu = true_taken order q p policy n R s place i (Named m) there free fits reg t in
        let ht = hits_true order q p policy n R (new_record s i) hit u.known reg hits in
        let tl = true_lost order q p policy n R u hit (next_name s) tu ht in
        let tj = true_joined order q p policy n R (lost u hit (next_name s)) (new_record s i) reg right tl in (
          true_frame (arrived u hit (new_record s i)) s.count (s.next_seq + 1) s.units s.clock (refuted_by i.clause s.verdict) s.journal tj,
          Each_append (TrueLetter order p policy n R) (broadcast s.me time (new_record s i) s.peers) (notices s.me time hit (next_name s) u.known)
              (true_broadcast order q p policy n R s.me time (new_record s i) l tm reg refl right s.peers (omega (arith, peers))) (true_notices order q p policy n R s.me time hit (next_name s) u.known l tm tu.known ht),
        )
    true_keep place i Trivial hit in' there free fits hits reg = (true_taken order q p policy n R s place i Trivial there free fits reg t, tt)
    true_keep place i (Subsumed d) hit in' there free fits hits reg = (true_taken order q p policy n R s place i (Subsumed d) there free fits reg t, tt)

    true_body : (place : ℕ) (x : Letter) (o : Option Hit) (hit : Known → Option How) → slice_get s.waiting place ≡ Some x → BodyHits order s x.body o hit
        → IsTrue order p policy n R (admitted_body (unshelved s place) x.body o hit) × Each (TrueLetter order p policy n R) (body_letters s time x.body o hit)
    true_body place x o hit there hits = go x.body o (Each_at (TrueLetter order p policy n R) s.waiting place x there t.waiting).says hits
      where
        u : Local
        u = unshelved s place

        tu : IsTrue order p policy n R u
        tu = true_waiting s place t

        go : (b : Body) (o : Option Hit) → TrueBody order p policy n R x.sender x.to b → BodyHits order s b o hit → IsTrue order p policy n R (admitted_body u b o hit) × Each (TrueLetter order p policy n R) (body_letters s time b o hit)
        go (body.Kept r) None says hits =
            let ht = hits_true order q p policy n R r hit s.known says.0 hits.1 in
            let tl = true_lost order q p policy n R u hit r.name tu ht in
            let tj = true_joined order q p policy n R (lost u hit r.name) r says.0 says.2 tl in
            (true_frame (arrived u hit r) s.count s.next_seq s.units s.clock (refuted_by r.clause s.verdict) s.journal tj, true_notices order q p policy n R s.me time hit r.name s.known l tm t.known ht)
        go (body.Kept r) (Some h) says hits =
            let b = forward_beaten s r h hits.0 t in (
              true_frame (shelved u r h.by h.how) s.count s.next_seq s.units s.clock (refuted_by r.clause s.verdict) s.journal (true_shelved order q p policy n R u r h.by h.how says.0 says.2 b tu),
              true_notice order q p policy n R s.me time h.by r (Some h.how) l says.2.in_range tm says.0 (λ w z. (let e : h.how ≡ w = cc in subst (Beaten order R r h.by) e b)),
            )
        go (body.Notice of by w) o says hits =
            let ht = notice_hits s.me x.to of by w s.known says t.known in
            (true_lost order q p policy n R u (named_hit of w) by tu ht, true_notices order q p policy n R s.me time (named_hit of w) by s.known l tm t.known ht)
        go (body.Token k) o says hits = (record { known = t.known; waiting = tu.waiting; mine = tu.mine; pending = t.pending; settled = t.settled; done = t.done; token = says; owed = t.owed }, tt)

    true_pass : (k : Token) → s.token ≡ Some k → IsTrue order p policy n R (passed_by s k) × Each (TrueLetter order p policy n R) (token_letters s time k)
    true_pass k has = go (eqb s.peers 1) refl
      where
        short : TrueToken n (Some (passed s.peers s.count k))
        short = let h : TrueToken n (Some k) = subst (TrueToken n) has t.token in rw peers (passed_short n s.count k (omega (arith, l)) h.0 h.1)

        go : (c : Bool) → eqb s.peers 1 ≡ c → IsTrue order p policy n R (cond c (record s { token = Some (passed s.peers s.count k) }) (record s { token = None }))
            × Each (TrueLetter order p policy n R) (cond c [] (record { sender = s.me; to = cond (eqb (s.me + 1) s.peers) 0 (s.me + 1); time = time; body = body.Token (passed s.peers s.count k) } ∷ []))
        go true e = (record { known = t.known; waiting = t.waiting; mine = t.mine; pending = t.pending; settled = t.settled; done = t.done; token = short; owed = t.owed }, tt)
        go false e = (
          record { known = t.known; waiting = t.waiting; mine = t.mine; pending = t.pending; settled = t.settled; done = t.done; token = tt; owed = t.owed },
          (record { time = tm; other = next_other s (omega (arith, l, peers)) (eqb_false s.peers 1 e) (omega (arith, l, peers)); sender = l; to_range = (let z = next_range s (omega (arith, l, peers)) in omega (arith, z, peers)); says = short }, tt),
        )

    -- what a Keep has to record, and what a Receive brings
    abbrev pub RegistersAct : (a : Act) → Found a → Type 0
    RegistersAct (Rewrite k) f = Unit {0}
    RegistersAct (Keep k) f = Registers order q p policy n R s f.item f.outcome
    RegistersAct (Receive x) f = TrueLetter order p policy n R x
    RegistersAct (Admit k) f = Unit {0}
    RegistersAct (Reject k) f = Unit {0}
    RegistersAct (Work k) f = Unit {0}
    RegistersAct Pass f = Unit {0}
    RegistersAct Declare f = Unit {0}
    RegistersAct (End v) f = Unit {0}

    pub true_acted : ((c : Clause) → owner_by policy n (next_name s) c < n) → (a : Act) (f : Found a) → Fits order p s a f → RegistersAct a f → IsTrue order p policy n R (acted s a f) × Each (TrueLetter order p policy n R) (sent_by s time a f)
    true_acted in' (Rewrite k) f fits reg = (true_rewritten s k f fits t, tt)
    true_acted in' (Keep k) f fits reg = true_keep k f.item f.outcome f.hit (in' f.item.clause) fits.there fits.free fits.outcome fits.hits reg
    true_acted in' (Receive x) f fits reg = (record { known = t.known; waiting = Each_push (TrueLetter order p policy n R) s.waiting x t.waiting reg; mine = Each_push (λ y. y.to ≡ s.me) s.waiting x t.mine fits; pending = t.pending; settled = t.settled; done = t.done; token = t.token; owed = t.owed }, tt)
    true_acted in' (Admit k) f fits reg = true_body k f.letter f.forward f.hit fits.there fits.hits
    true_acted in' (Reject k) f fits reg = (true_waiting s k t, tt)
    true_acted in' (Work k) f fits reg = (true_worked s k f fits.1 t, tt)
    true_acted in' Pass f fits reg = true_pass f fits.1
    true_acted in' Declare f fits reg = (true_frame s s.count s.next_seq s.units s.clock (Some Saturated) s.journal t, tt)
    true_acted in' (End v) f fits reg = (true_frame s s.count s.next_seq s.units s.clock (Some v) s.journal t, tt)
