-- The event of a turn.
use Rattle.std.proofs.Common.{◌≡◌, ℕ, zero, suc, ◌+◌, ◌<◌, ◌≤◌, ◌≢◌, Bool, true, false, ◌&&◌, cond, eqb, List, [], ◌∷◌, ◌++◌, length, arith, refl, ap, sym, ◌∙◌, subst, inl, inr, ◌⊎◌}
use Rattle.std.specs.Prelude.{slice_get, remove, Option, Some, None}
use Rattle.std.proofs.lemmas.Bool.{cases_lt, eqb-true}
use Rattle.std.proofs.lemmas.Bool.Decides.{nat_tests}
use Rattle.cd_steps.specs.declared.Step.TheVariants as step
use Rattle.cd_names.specs.declared.How.TheVariants as how
use Rattle.cd_ledger.specs.declared.items.Origin.TheVariants as origin
use Rattle.cd_ledger.specs.declared.letters.Body.TheVariants as body
use Rattle.cd_ledger.specs.declared.events.Bound.TheVariants as bound'
use Rattle.cd_ledger.specs.declared.events.Verdict.TheVariants as verdict
use Rattle.cd_clause.specs.declared.Clause.{Clause}
use Rattle.cd_term.specs.declared.Term.{Term}
use Rattle.cd_names.specs.declared.names.Name.{Name}
use Rattle.cd_steps.specs.declared.Step.{Step}
use Rattle.cd_names.specs.declared.How.{How}
use Rattle.cd_contract.specs.declared.held.Hit.{Hit}
use Rattle.cd_tasks.specs.declared.Task.{Task}
use Rattle.cd_tasks.specs.declared.Task.TheVariants.{Pair, Solo}
use Rattle.cd_ledger.specs.declared.items.Origin.{Origin}
use Rattle.cd_infer.specs.declared.Conclusion.{Conclusion}
use Rattle.cd_ledger.specs.declared.items.Item.{Item}
use Rattle.cd_ledger.specs.declared.records.Record.{Record}
use Rattle.cd_ledger.specs.declared.records.Known.{Known}
use Rattle.cd_ledger.specs.declared.items.Outcome.{Outcome}
use Rattle.cd_ledger.specs.declared.items.Outcome.TheVariants.{Named, Subsumed, Trivial}
use Rattle.cd_names.specs.declared.waves.Token.{Token}
use Rattle.cd_ledger.specs.declared.letters.Body.{Body}
use Rattle.cd_ledger.specs.declared.letters.Letter.{Letter}
use Rattle.cd_ledger.specs.declared.events.Verdict.{Verdict}
use Rattle.cd_names.specs.declared.ownership.Policy.{Policy}
use Rattle.cd_ledger.specs.declared.events.Act.{Act}
use Rattle.cd_ledger.specs.declared.events.Act.TheVariants.{Admit, Declare, End, Keep, Pass, Receive, Reject, Rewrite, Work}
use Rattle.cd_ledger.specs.declared.events.Event.{Event}
use Rattle.cd_ledger.specs.declared.local.Local.{Local}
use Rattle.cd_list.specs.Lists.{tally}
use Rattle.std.specs.List.{AllByRecursion as Each, list_any}
use Rattle.std.specs.List.{cons_option}
use Rattle.cd_machine.specs.Lists.{IsFirst}
use Rattle.cd_read.specs.declared.problem.Problem.{Problem}
use Rattle.cd_machine.specs.Rules.{clauses_of, IsConclusionWithin, IsTautology, IsWithin, PairConcludes, Reduces, ReductAt, SoloConcludes, Subsumes, is_empty}
use Rattle.cd_machine.specs.Fits.{ArrivalHits, BodyHits, EndFits, Fits, IsAcceptable, IsQuiet, KeepHits, MayDeclare, OutcomeFits, is_ready}
use Rattle.cd_machine.specs.Acts.{AreTaskItems, Concludes, Rewritten, admitted_body, kept, reworked, taken, unshelved}
use Rattle.cd_machine.specs.Contraction.{hit_on, named_hit, rework_item, rework_of, reworks}
use Rattle.cd_machine.specs.Tokens.{passed, wave_closed}
use Rattle.cd_machine.specs.Turns.{EndsFirst, HasTurn, IsFirstAct, IsFirstReady, IsIdle, IsTurning, NoneReady}
use Rattle.cd_ledger.specs.Records.{is_known, is_of, look, recorded}
use Rattle.cd_machine.specs.Right.{IsTidyStep, registry_of}
use Rattle.cd_machine.specs.Arrivals.{new_record, next_name}
use Rattle.cd_ledger.specs.Statuses.{is_held}
use Rattle.cd_machine.specs.Events.{Found, acted, clock_after}
use Rattle.cd_machine.specs.Hits.{AreHits, IsBackHit, IsBeater, IsBelow, IsForward, IsReducer, IsRewriter, IsSubsumer}
use Rattle.cd_machine.specs.World.{AreShare, Run, World, at}
use Rattle.cd_laws.specs.Premises.{Premises}
use Rattle.cd_machine.specs.Spread.{held_times, record_of}
use Rattle.cd_laws.specs.Sound.{IsSound, ItemFalls, TrueItem, home_times, owed_times, task_eq}
use Rattle.cd_laws.specs.Rooted.{ForcedKnown, ItemKnown}
use Rattle.cd_laws.specs.Turns.{CanTurn, Decisions, ForcedRework, IsBounded, IsForcedHere, IsTaskHere, RunsTurn}
use Rattle.cd_laws.proofs.Lists.{Each_all, Each_append, Each_at, Each_both, Each_first, Each_gather, Each_remove, Each_set, Each_weaker, none_of_tally, tally_under}
use Rattle.cd_laws.proofs.Steps.{at_each, name_eq_refl}
use Rattle.cd_laws.proofs.Still.{nothing_at}
use Rattle.cd_laws.proofs.Whole.{acceptable, known_entry, recorded_known, run_sound}
use Rattle.cd_laws.proofs.Start.{start_sound}
use Rattle.cd_laws.proofs.Descent.{tally_at}
use Rattle.cd_laws.proofs.Rooted.{runs_led}
use Rattle.cd_kbo.specs.declared.order.Order.{Order}

-- ---- deciding
pub first_of : {A : Type 0} (P : A → Type 0) → ((x : A) → P x ⊎ (P x → ⊥)) → (xs : List A) → ((x : A) × IsFirst P xs x) ⊎ Each (λ x. ¬ P x) xs
first_of P d [] = inr tt
first_of {A} P d (x ∷ xs) = go (d x) (first_of P d xs)
  where
    go : P x ⊎ (P x → ⊥) → ((y : A) × IsFirst P xs y) ⊎ Each (λ y. ¬ P y) xs → ((y : A) × IsFirst P (x ∷ xs) y) ⊎ Each (λ y. ¬ P y) (x ∷ xs)
    go (inl h) r = inl (x, record { front = []; back = xs; split = refl; is = h; first = tt })
    go (inr n) (inl y) = inl (y.0, record { front = x ∷ y.1.front; back = y.1.back; split = ap (λ zs. x ∷ zs) y.1.split; is = y.1.is; first = (n, y.1.first) })
    go (inr n) (inr h) = inr (n, h)

pub all_of : {A : Type 0} (P : A → Type 0) → ((x : A) → P x ⊎ (P x → ⊥)) → (xs : List A) → Each P xs ⊎ (Each P xs → ⊥)
all_of P d [] = inl tt
all_of P d (x ∷ xs) = go (d x) (all_of P d xs)
  where
    go : P x ⊎ (P x → ⊥) → Each P xs ⊎ (Each P xs → ⊥) → Each P (x ∷ xs) ⊎ (Each P (x ∷ xs) → ⊥)
    go (inl h) (inl r) = inl (h, r)
    go (inl h) (inr r) = inr (λ z. r z.1)
    go (inr h) r = inr (λ z. h z.0)

pub both : {A B : Type 0} → A ⊎ (A → ⊥) → B ⊎ (B → ⊥) → (A × B) ⊎ (A × B → ⊥)
both (inl a) (inl b) = inl (a, b)
both (inl a) (inr b) = inr (λ z. b z.1)
both (inr a) b = inr (λ z. a z.0)

pub three : {A B C : Type 0} → A ⊎ (A → ⊥) → B ⊎ (B → ⊥) → C ⊎ (C → ⊥) → (A × B × C) ⊎ (A × B × C → ⊥)
three (inl a) (inl b) (inl c) = inl (a, b, c)
three (inl a) (inl b) (inr c) = inr (λ z. c z.2)
three (inl a) (inr b) c = inr (λ z. b z.1)
three (inr a) b c = inr (λ z. a z.0)

pub told : (b : Bool) → (b ≡ true) ⊎ (b ≡ true → ⊥)
told true = inl refl
told false = inr (λ h. cc)

tells_false : (b : Bool) → (b ≡ true → ⊥) → b ≡ false
tells_false true h = absurd (h refl)
tells_false false h = refl

-- the first letter that is ready
record Splits (t : Letter → Bool) (ls : List Letter) : Type 0 where
  front : List Letter
  letter : Letter
  back : List Letter
  split : ls ≡ front ++ letter ∷ back
  ready : t letter ≡ true
  first : Each (λ l. t l ≡ false) front

splits : (t : Letter → Bool) (ls : List Letter) → Splits t ls ⊎ Each (λ l. t l ≡ false) ls
splits t [] = inr tt
splits t (x ∷ xs) = go (t x) refl (splits t xs)
  where
    go : (b : Bool) → t x ≡ b → Splits t xs ⊎ Each (λ l. t l ≡ false) xs → Splits t (x ∷ xs) ⊎ Each (λ l. t l ≡ false) (x ∷ xs)
    go true e r = inl (record { front = []; letter = x; back = xs; split = refl; ready = e; first = tt })
    go false e (inl r) = inl (record { front = x ∷ r.front; letter = r.letter; back = r.back; split = ap (λ zs. x ∷ zs) r.split; ready = r.ready; first = (e, r.first) })
    go false e (inr h) = inr (e, h)

split_there : (ls front : List Letter) (l : Letter) (back : List Letter) → ls ≡ front ++ l ∷ back → slice_get ls (length front) ≡ Some l
split_there ls front l back h = ap (λ xs. slice_get xs (length front)) h ∙ here front
  where
    here : (xs : List Letter) → slice_get (xs ++ l ∷ back) (length xs) ≡ Some l
    here [] = refl
    here (x ∷ xs) = here xs

module _ (order : Order) (q : Premises order) (d : Decisions order) where
  beater : (h : How) (r : Record) (e : Known) → IsBeater order h r e ⊎ (IsBeater order h r e → ⊥)
  beater how.Subsumes r e = three (told (is_held e)) (q.key_decides e.entry.clause r.clause (Some e.entry.name) (Some r.name)) (d.subsumes e.entry.clause r.clause)
  beater how.Reduces r e = three (told (is_held e)) (q.key_decides e.entry.clause r.clause (Some e.entry.name) (Some r.name)) (d.reduces e.entry.clause r.clause)

  reducer : (c : Clause) (e : Known) → IsReducer order c e ⊎ (IsReducer order c e → ⊥)
  reducer c e = three (told (is_held e)) (q.key_decides e.entry.clause c (Some e.entry.name) None) (d.reduces e.entry.clause c)

  subsumer : (c : Clause) (e : Known) → IsSubsumer c e ⊎ (IsSubsumer c e → ⊥)
  subsumer c e = both (told (is_held e)) (d.subsumes e.entry.clause c)

  back_hit : (r : Record) (e : Known) → (o : Option How) × IsBackHit order r e o
  back_hit r e = go (q.key_decides r.clause e.entry.clause (Some r.name) (Some e.entry.name)) (d.subsumes r.clause e.entry.clause) (d.reduces r.clause e.entry.clause)
    where
      go : IsBelow order r e.entry ⊎ (IsBelow order r e.entry → ⊥) → Subsumes r.clause e.entry.clause ⊎ (Subsumes r.clause e.entry.clause → ⊥) → Reduces order r.clause e.entry.clause ⊎ (Reduces order r.clause e.entry.clause → ⊥) → (o : Option How) × IsBackHit order r e o
      go (inl b) (inl x) y = (Some how.Subsumes, (b, x))
      go (inl b) (inr x) (inl y) = (Some how.Reduces, (b, x, y))
      go (inl b) (inr x) (inr y) = (None, (λ u v. (x, y)))
      go (inr b) x y = (None, (λ u v. absurd (b v)))

  abbrev hit_of : Record → Known → Option How
  hit_of r e = (back_hit r e).0

  hits : (r : Record) (es : List Known) → AreHits order r es (hit_of r)
  hits r es = Each_all (λ e. IsBackHit order r e (hit_on (hit_of r) e)) one es
    where
      one : (e : Known) → IsBackHit order r e (hit_on (hit_of r) e)
      one e = go (is_held e) refl
        where
          go : (b : Bool) → is_held e ≡ b → IsBackHit order r e (cond b (hit_of r e) None)
          go true h = (back_hit r e).1
          go false h = λ x y. absurd (let z : false ≡ true = sym h ∙ x in cc)

  forward : (r : Record) (es : List Known) → (o : Option Hit) × IsForward order r es o
  forward r es = go (first_of (IsBeater order how.Subsumes r) (beater how.Subsumes r) es) (first_of (IsBeater order how.Reduces r) (beater how.Reduces r) es)
    where
      go : ((x : Known) × IsFirst (IsBeater order how.Subsumes r) es x) ⊎ Each (λ x. ¬ IsBeater order how.Subsumes r x) es → ((x : Known) × IsFirst (IsBeater order how.Reduces r) es x) ⊎ Each (λ x. ¬ IsBeater order how.Reduces r x) es → (o : Option Hit) × IsForward order r es o
      go (inl x) y = (Some (record { by = x.0.entry.name; how = how.Subsumes }), (x.0, x.1, refl, tt))
      go (inr n) (inl y) = (Some (record { by = y.0.entry.name; how = how.Reduces }), (y.0, y.1, refl, n))
      go (inr n) (inr m) = (None, Each_both (λ e. ¬ IsBeater order how.Subsumes r e) (λ e. ¬ IsBeater order how.Reduces r e) es n m)

  kept_hits : (s : Local) (i : Item) (o : Outcome) → KeepHits order s 0 i o (hit_of (new_record s i))
  kept_hits s i (Named n) = hits (new_record s i) (taken s 0 i (Named n)).known
  kept_hits s i Trivial = tt
  kept_hits s i (Subsumed d) = tt

  arrival_hits : (o : Option Hit) (r : Record) (es : List Known) → ArrivalHits order o r es (hit_of r)
  arrival_hits None r es = hits r es
  arrival_hits (Some h) r es = tt

  body_hits : (s : Local) (b : Body) → (o : Option Hit) × (hit : Known → Option How) × BodyHits order s b o hit
  body_hits s (body.Kept r) = let f = forward r s.known in (f.0, hit_of r, (f.1, arrival_hits f.0 r s.known))
  body_hits s (body.Notice of by w) = (None, (λ e. None), tt)
  body_hits s (body.Token t) = (None, (λ e. None), tt)

  tidy_step : (s : Step) (c : Clause) → (steps : List Step) × (x : Clause) × IsTidyStep s c steps x
  tidy_step s c = elim (d.tidy c) [
    | inl t ↦ (s ∷ [], c, inl (t, refl, refl))
    | inr n ↦ (let x = d.tidied c in (s ∷ step.Tidy ∷ [], x.0, inr (n, x.1, refl)))
  ]

  task_items : (task : Task) (k : ℕ) (cs : List Conclusion) → (items : List Item) × AreTaskItems task k cs items
  task_items task k [] = ([], refl)
  task_items task k (c ∷ cs) =
      let t = tidy_step c.step c.clause in
      let rest = task_items task (k + 1) cs in
      let item : Item = record { origin = origin.Task task k; forced = None; steps = t.0; clause = t.1 } in
      (item ∷ rest.0, (item, rest.0, (refl, refl, t.2), rest.1, refl))

-- ---- there is an event
module _ (order : Order) (q : Premises order) (d : Decisions order) (p : Problem) (s : Local) (can : CanTurn order p s) (run : s.verdict ≡ None) where
  makes : (a : Act) (f : Found a) → Fits order p s a f → IsFirstAct order s a → HasTurn order p s ⊎ IsIdle s
  makes a f x y = inl (record { event = record { time = clock_after s.clock a; peer = s.me; act = a }; first = y; found = f; legal = record { running = run; own = refl; time = refl; fits = x } })

  -- the equation that a pending item waits for reduces it
  abbrev Rewriter : Item → Type 0
  Rewriter it = ((e : Known) × IsRewriter order s.known it.forced it.clause e × Reduces order e.entry.clause it.clause) ⊎ ((it.forced ≡ None) × Each (λ e. ¬ IsReducer order it.clause e) s.known)

  rewriter : (it : Item) → IsForcedHere order s.known it → Rewriter it
  rewriter it x = go it.forced refl
    where
      go : (f : Option Name) → it.forced ≡ f → Rewriter it
      go (Some n) e =
          let r = x n e in
          inl (r.0, subst (λ (u : Option Name). (IsRewriter order) s.known u it.clause r.0) (sym e) r.1, r.2)
      go None e = by (first_of (IsReducer order it.clause) (reducer order q d it.clause) s.known)
        where
          by : ((x : Known) × IsFirst (IsReducer order it.clause) s.known x) ⊎ Each (λ x. ¬ IsReducer order it.clause x) s.known → Rewriter it
          by (inl r) = inl (r.0, subst (λ (u : Option Name). (IsRewriter order) s.known u it.clause r.0) (sym e) r.1, r.1.is.2)
          by (inr n) = inr (e, n)

  from_item : (it : Item) (others : List Item) → s.pending ≡ it ∷ others → NoneReady s → HasTurn order p s ⊎ IsIdle s
  from_item it others eq none = by (rewriter it forced)
    where
      there : slice_get s.pending 0 ≡ Some it
      there = ap (λ xs. slice_get xs 0) eq

      forced : IsForcedHere order s.known it
      forced = Each_at (IsForcedHere order s.known) s.pending 0 it there can.forced

      rewrites : (e : Known) → IsRewriter order s.known it.forced it.clause e → Reduces order e.entry.clause it.clause → HasTurn order p s ⊎ IsIdle s
      rewrites e r red = units (cases_lt s.units s.limits.steps) (d.reduct e.entry.clause it.clause red)
        where
          units : (s.units < s.limits.steps) ⊎ (s.limits.steps ≤ s.units)
              → (side : ℕ) × (j : ℕ) × (path : List ℕ) × (t : List Term) × (x : Clause) × ReductAt order e.entry.clause it.clause side j path t x → HasTurn order p s ⊎ IsIdle s
          units (inr full) f = makes (End verdict.Spent) tt ((let u = can.units in omega (arith, u, full)), inr (0, it, there, (e, r))) (none, inl (it, others, eq, (e, r)))
          units (inl left) f = within (d.within f.4) (tidy_step order q d (step.Rewrite e.entry.name f.0 f.1 f.2 f.3) f.4)
            where
              within : IsWithin f.4 ⊎ (IsWithin f.4 → ⊥) → (steps : List Step) × (x : Clause) × IsTidyStep (step.Rewrite e.entry.name f.0 f.1 f.2 f.3) f.4 steps x → HasTurn order p s ⊎ IsIdle s
              within (inl ok) t =
                  makes (Rewrite 0) (record { item = it; equation = e; side = f.0; literal = f.1; path = f.2; subst = f.3; reduct = f.4; steps = t.0; clause = t.1 })
                  (record { there = there; rewriter = r; reduces = f.5; within = ok; tidy = t.2; left = left }) (none, refl)
              within (inr out) t =
                  let x : Rewritten = record { item = it; equation = e; side = f.0; literal = f.1; path = f.2; subst = f.3; reduct = f.4; steps = t.0; clause = t.1 } in
                  makes (End (verdict.Limit bound'.Bounds)) tt (left, inl (0, x, there, r, f.5, out)) (none, inl (it, others, eq, (x, refl, r, f.5, out)))

      keeps : it.forced ≡ None → Each (λ e. ¬ IsReducer order it.clause e) s.known → HasTurn order p s ⊎ IsIdle s
      keeps free irr = kinds (d.tautology it.clause) (first_of (IsSubsumer it.clause) (subsumer order q d it.clause) s.known) (cases_lt s.next_seq 65536) (told (is_empty it.clause))
        where
          keep : (o : Outcome) → OutcomeFits s it o → HasTurn order p s ⊎ IsIdle s
          keep o x = makes (Keep 0) (record { item = it; outcome = o; hit = hit_of order q d (new_record s it) })
              (record { there = there; free = free; irreducible = irr; outcome = x; hits = kept_hits order q d s it o }) (none, refl)

          kinds : IsTautology it.clause ⊎ (IsTautology it.clause → ⊥) → ((x : Known) × IsFirst (IsSubsumer it.clause) s.known x) ⊎ Each (λ x. ¬ IsSubsumer it.clause x) s.known
              → (s.next_seq < 65536) ⊎ (65536 ≤ s.next_seq) → (is_empty it.clause ≡ true) ⊎ (is_empty it.clause ≡ true → ⊥) → HasTurn order p s ⊎ IsIdle s
          kinds (inl t) y z u = keep Trivial t
          kinds (inr t) (inl y) z u = keep (Subsumed y.0.entry.name) (t, (y.0, y.1, refl))
          kinds (inr t) (inr y) (inl z) u = keep (Named (next_name s)) (t, y, refl, inl z)
          kinds (inr t) (inr y) (inr z) (inl u) = keep (Named (next_name s)) (t, y, refl, inr u)
          kinds (inr t) (inr y) (inr z) (inr u) = makes (End (verdict.Limit bound'.Names)) tt (z, (0, it, there, free, irr, t, y, tells_false (is_empty it.clause) u)) (none, (it, others, eq, (free, irr, t, y, tells_false (is_empty it.clause) u)))

      by : Rewriter it → HasTurn order p s ⊎ IsIdle s
      by (inl x) = rewrites x.0 x.1 x.2
      by (inr x) = keeps x.0 x.1

  concludes : (t : Task) → IsTaskHere s.known t → (found : List Conclusion) × Concludes order (registry_of s) t found
  concludes (Solo a) h =
      let f = d.solo a h.0.clause in
      (f.0, (h.0, h.1, f.1))
  concludes (Pair a c) h =
      let f = d.pair a c h.0.0.clause h.1.0.clause in
      (f.0, (h.0.0, h.1.0, h.0.1, h.1.1, f.1))

  from_task : (t : Task) (others : List Task) → s.pending ≡ [] → s.owed ≡ t ∷ others → NoneReady s → HasTurn order p s ⊎ IsIdle s
  from_task t others nil eq none = by (cases_lt s.units s.limits.steps) (concludes t (Each_at (IsTaskHere s.known) s.owed 0 t there can.tasks))
    where
      there : slice_get s.owed 0 ≡ Some t
      there = ap (λ xs. slice_get xs 0) eq

      not_nil : s.owed ≢ []
      not_nil x = let z : t ∷ others ≡ [] = sym eq ∙ x in cc

      by : (s.units < s.limits.steps) ⊎ (s.limits.steps ≤ s.units) → (found : List Conclusion) × Concludes order (registry_of s) t found → HasTurn order p s ⊎ IsIdle s
      by (inr full) f = makes (End verdict.Spent) tt ((let u = can.units in omega (arith, u, full)), inl not_nil) (none, inr (nil, (t, others, eq, tt)))
      by (inl left) f = within (all_of IsConclusionWithin d.conclusion_within f.0) (task_items order q d t 0 f.0)
        where
          within : Each IsConclusionWithin f.0 ⊎ (Each IsConclusionWithin f.0 → ⊥) → (items : List Item) × AreTaskItems t 0 f.0 items → HasTurn order p s ⊎ IsIdle s
          within (inl ok) m = makes (Work t) (record { others = remove s.owed 0; found = f.0; items = m.0 })
              (left, record { takes = record { place = 0; there = there; rest = refl }; concludes = f.1; within = ok; items = m.1 }) (none, (nil, (t, others, eq, refl)))
          within (inr out) m = makes (End (verdict.Limit bound'.Bounds)) tt (left, inr (t, 0, f.0, there, f.1, out)) (none, inr (nil, (t, others, eq, (f.0, f.1, out))))

  from_token : (o : Option Token) → s.token ≡ o → s.pending ≡ [] → s.owed ≡ [] → NoneReady s → HasTurn order p s ⊎ IsIdle s
  from_token None e nil nil' none = inr (none, nil, nil', e)
  from_token (Some t) e nil nil' none = by (both (told (eqb s.me 0)) (told (wave_closed s.peers t)))
    where
      quiet : IsQuiet s
      quiet = record { pending = nil; owed = nil'; waiting = none }

      by : ((eqb s.me 0 ≡ true) × (wave_closed s.peers t ≡ true)) ⊎ ((eqb s.me 0 ≡ true) × (wave_closed s.peers t ≡ true) → ⊥) → HasTurn order p s ⊎ IsIdle s
      by (inl x) = makes Declare t (quiet, e, (eqb-true s.me 0 x.0, x.1)) none
      by (inr x) = makes Pass t (quiet, e, (λ z. x ((let m = z.0 in grind (arith, nat_tests, m)), z.1))) none

  one : HasTurn order p s ⊎ IsIdle s
  one = letters (splits (is_ready s.known) s.waiting)
    where
      letters : Splits (is_ready s.known) s.waiting ⊎ NoneReady s → HasTurn order p s ⊎ IsIdle s
      letters (inl x) = judged (can.letters (length x.front) x.letter there x.ready)
        where
          there : slice_get s.waiting (length x.front) ≡ Some x.letter
          there = split_there s.waiting x.front x.letter x.back x.split

          at_first : IsFirstReady s (length x.front)
          at_first = record { front = x.front; letter = x.letter; back = x.back; split = x.split; at = refl; ready = x.ready; first = x.first }

          judged : IsAcceptable order p s x.letter ⊎ (IsAcceptable order p s x.letter → ⊥) → HasTurn order p s ⊎ IsIdle s
          judged (inl fine) =
              let f = body_hits order q d s x.letter.body in
              makes (Admit (length x.front)) (record { letter = x.letter; forward = f.0; hit = f.1 }) (record { there = there; ready = x.ready; fine = fine; hits = f.2 }) at_first
          judged (inr bad) = makes (Reject (length x.front)) x.letter (record { there = there; ready = x.ready; bad = bad }) at_first
      letters (inr none) = items s.pending refl
        where
          tasks : (ts : List Task) → s.owed ≡ ts → s.pending ≡ [] → HasTurn order p s ⊎ IsIdle s
          tasks [] e nil = from_token s.token refl nil e none
          tasks (t ∷ ts) e nil = from_task t ts nil e none

          items : (is : List Item) → s.pending ≡ is → HasTurn order p s ⊎ IsIdle s
          items [] e = tasks s.owed refl e
          items (it ∷ is) e = from_item it is e none

-- ---- what holds of pending items and units
abbrev Forced : Item → Type 0
Forced it = ForcedRework it.origin it.forced

forced_none : (o : Origin) → ForcedRework o None
forced_none (origin.Input k) = refl
forced_none (origin.Task t k) = refl
forced_none (origin.Rework n) = tt

put_forced : (me : ℕ) (n : Name) (r : Record) (o : Option How) → Each Forced (cons_option (rework_of me n r o) [])
put_forced me n r None = tt
put_forced me n r (Some how.Subsumes) = tt
put_forced me n r (Some how.Reduces) = elim (eqb r.owner me) as (λ b. Each Forced (cons_option (cond b (Some (rework_item n r)) None) [])) [ true ↦ (tt, tt) | false ↦ tt ]

reworks_forced : (me : ℕ) (hit : Known → Option How) (n : Name) (es : List Known) → Each Forced (reworks me hit n es)
reworks_forced me hit n es = Each_gather Forced (λ e. rework_of me n e.entry (hit_on hit e)) es (Each_all (λ e. Each Forced (cons_option (rework_of me n e.entry (hit_on hit e)) [])) (λ e. put_forced me n e.entry (hit_on hit e)) es)

task_forced : (t : Task) (k : ℕ) (cs : List Conclusion) (items : List Item) → AreTaskItems t k cs items → Each Forced items
task_forced t k [] items h = rw h tt
task_forced t k (c ∷ cs) items h = rw h.4 (subst (λ (o : Origin). ForcedRework o h.0.forced) (sym h.2.0) (h.2.1), task_forced t (k + 1) cs h.1 h.3)

pub share_forced : (me n k : ℕ) (cs : List Clause) (items : List Item) → AreShare me n k cs items → Each Forced items
share_forced me n k [] items are = rw are tt
share_forced me n k (c ∷ cs) items (inl x) = rw x.1.4 (subst (λ (o : Origin). ForcedRework o x.1.0.forced) (sym x.1.2.0) x.1.2.1, share_forced me n (k + 1) cs x.1.1 x.1.3)
share_forced me n k (c ∷ cs) items (inr x) = share_forced me n (k + 1) cs items x.1

pub bounded_acted : (order : Order) → (p : Problem) (s : Local) (a : Act) (f : Found a) → Fits order p s a f → IsBounded s → IsBounded (acted s a f)
bounded_acted order p s (Rewrite k) f fits b = record { forced = Each_set Forced s.pending k (reworked f) b.forced (forced_none f.item.origin); units = (let x = fits.left in omega (arith, x)) }
bounded_acted order p s (Keep k) f fits b = go f.outcome
  where
    go : (o : Outcome) → IsBounded (kept s k f.item o f.hit)
    go (Named n) = record { forced = Each_append Forced (remove s.pending k) (reworks s.me f.hit (next_name s) (taken s k f.item (Named n)).known) (Each_remove Forced s.pending k b.forced) (reworks_forced s.me f.hit (next_name s) (taken s k f.item (Named n)).known); units = b.units }
    go Trivial = record { forced = Each_remove Forced s.pending k b.forced; units = b.units }
    go (Subsumed m) = record { forced = Each_remove Forced s.pending k b.forced; units = b.units }
bounded_acted order p s (Receive l) f fits b = record { forced = b.forced; units = b.units }
bounded_acted order p s (Admit k) f fits b = go f.letter.body f.forward
  where
    go : (x : Body) (o : Option Hit) → IsBounded (admitted_body (unshelved s k) x o f.hit)
    go (body.Kept r) None = record { forced = Each_append Forced s.pending (reworks s.me f.hit r.name s.known) b.forced (reworks_forced s.me f.hit r.name s.known); units = b.units }
    go (body.Kept r) (Some h) = record { forced = Each_append Forced s.pending (cons_option (rework_of s.me h.by r (Some h.how)) []) b.forced (put_forced s.me h.by r (Some h.how)); units = b.units }
    go (body.Notice of by x) o = record { forced = Each_append Forced s.pending (reworks s.me (named_hit of x) by s.known) b.forced (reworks_forced s.me (named_hit of x) by s.known); units = b.units }
    go (body.Token t) o = record { forced = b.forced; units = b.units }
bounded_acted order p s (Reject k) f fits b = record { forced = b.forced; units = b.units }
bounded_acted order p s (Work t) f fits b = record { forced = Each_append Forced s.pending f.items b.forced (task_forced t 0 f.found f.items fits.1.items); units = (let x = fits.0 in omega (arith, x)) }
bounded_acted order p s Pass f fits b = elim (eqb s.peers 1) as (λ x. IsBounded (cond x (record s { token = Some (passed s.peers s.count f) }) (record s { token = None })))
    [ true ↦ record { forced = b.forced; units = b.units } | false ↦ record { forced = b.forced; units = b.units } ]
bounded_acted order p s Declare f fits b = record { forced = b.forced; units = b.units }
bounded_acted order p s (End v) f fits b = record { forced = b.forced; units = b.units }

bounded_run : (order : Order) → (p : Problem) (es : List Event) (w v : World) → Run order p w es v → ((k : ℕ) → k < length w.locals → IsBounded (at w k)) → (k : ℕ) → k < length v.locals → IsBounded (at v k)
bounded_run order p [] w v r h = subst (λ (z : World). (k : ℕ) → k < length z.locals → IsBounded (at z k)) (sym r) h
bounded_run order p (e ∷ es) w v r h = bounded_run order p es r.0 v r.2
    (at_each order p w e r.0 r.1 (λ k s. IsBounded s)
    (let a = bounded_acted order p (at w e.peer) e.act r.1.found r.1.legal.fits (h e.peer r.1.in_range) in record { forced = a.forced; units = a.units })
    (λ k l ne. h k l))

-- ---- no event of an idle peer
clash : (b : Bool) → b ≡ true → b ≡ false → ⊥
clash b h g = let z : true ≡ false = sym h ∙ g in cc

cons_nil : {A : Type 0} (xs : List A) (x : A) (ys : List A) → xs ≡ x ∷ ys → xs ≡ [] → ⊥
cons_nil xs x ys h g = let z : x ∷ ys ≡ [] = sym h ∙ g in cc

ready_clash : (s : Local) (k : ℕ) (l : Letter) → NoneReady s → slice_get s.waiting k ≡ Some l → is_ready s.known l ≡ true → ⊥
ready_clash s k l none there ready = clash (is_ready s.known l) ready (Each_at (λ x. is_ready s.known x ≡ false) s.waiting k l there none)

idle_none : (order : Order) → (p : Problem) (s : Local) (a : Act) (f : Found a) → Fits order p s a f → IsFirstAct order s a → IsIdle s → ⊥
idle_none order p s (Rewrite k) f fits c h = nothing_at s.pending k f.item h.1 fits.there
idle_none order p s (Keep k) f fits c h = nothing_at s.pending k f.item h.1 fits.there
idle_none order p s (Receive l) f fits c h = c
idle_none order p s (Admit k) f fits c h = ready_clash s k f.letter h.0 fits.there fits.ready
idle_none order p s (Reject k) f fits c h = ready_clash s k f h.0 fits.there fits.ready
idle_none order p s (Work t) f fits c h = nothing_at s.owed fits.1.takes.place t h.2 fits.1.takes.there
idle_none order p s Pass f fits c h = let z : Some f ≡ None = sym fits.1 ∙ h.3 in cc
idle_none order p s Declare f fits c h = let z : Some f ≡ None = sym fits.1 ∙ h.3 in cc
idle_none order p s (End v) f fits c h = ends v c.1
  where
    ends : (v : Verdict) → EndsFirst order s v → ⊥
    ends verdict.Refuted x = x
    ends verdict.Saturated x = x
    ends verdict.Spent (inl x) = cons_nil s.pending x.0 x.1 x.2 h.1
    ends verdict.Spent (inr x) = cons_nil s.owed x.1.0 x.1.1 x.1.2 h.2
    ends (verdict.Limit bound'.Bounds) (inl x) = cons_nil s.pending x.0 x.1 x.2 h.1
    ends (verdict.Limit bound'.Bounds) (inr x) = cons_nil s.owed x.1.0 x.1.1 x.1.2 h.2
    ends (verdict.Limit bound'.Names) x = cons_nil s.pending x.0 x.1 x.2 h.1

-- ---- no other event
split_once : {A : Type 0} (P : A → Type 0) (f g : List A) (x y : A) (b c : List A) → f ++ x ∷ b ≡ g ++ y ∷ c → P x → Each (λ z. ¬ P z) f → P y → Each (λ z. ¬ P z) g → (length f ≡ length g) × (x ≡ y)
split_once P [] [] x y b c e px nf py ng = (refl, cc)
split_once P [] (z ∷ g) x y b c e px nf py ng = absurd (let u : x ≡ z = cc in ng.0 (subst P u px))
split_once P (z ∷ f) [] x y b c e px nf py ng = absurd (let u : z ≡ y = cc in nf.0 (subst P (sym u) py))
split_once P (z ∷ f) (u ∷ g) x y b c e px nf py ng =
    let r = split_once P f g x y b c (let t : f ++ x ∷ b ≡ g ++ y ∷ c = cc in t) px nf.1 py ng.1 in
    (let a = r.0 in omega (arith, a), r.1)

first_once : {A : Type 0} (P : A → Type 0) (xs : List A) (x y : A) → IsFirst P xs x → IsFirst P xs y → x ≡ y
first_once P xs x y f g = (split_once P f.front g.front x y f.back g.back (sym f.split ∙ g.split) f.is f.first g.is g.first).1

not_first : {A : Type 0} (P : A → Type 0) (xs : List A) (x : A) → IsFirst P xs x → Each (λ z. ¬ P z) xs → ⊥
not_first P xs x f n = let r = Each_first P (λ z. ¬ P z) xs x f n in r.1 r.0

place_once : (s : Local) (j k : ℕ) → IsFirstReady s j → IsFirstReady s k → j ≡ k
place_once s j k f g =
    let weak = Each_weaker (λ l. is_ready s.known l ≡ false) (λ l. ¬ (is_ready s.known l ≡ true)) (λ l h t. clash (is_ready s.known l) t h) in
    f.at ∙ ((split_once (λ l. is_ready s.known l ≡ true) f.front g.front f.letter g.letter f.back g.back (sym f.split ∙ g.split) f.ready (weak f.front f.first) g.ready (weak g.front g.first)).0 ∙ sym g.at)

rewriter_once : (order : Order) → (es : List Known) (o : Option Name) (c : Clause) (e f : Known) → IsRewriter order es o c e → IsRewriter order es o c f → e ≡ f
rewriter_once order es (Some n) c e f x y = let z : Some e ≡ Some f = sym x ∙ y in cc
rewriter_once order es None c e f x y = first_once (IsReducer order c) es e f x y

no_rewriter : (order : Order) → (es : List Known) (o : Option Name) (c : Clause) (e : Known) → IsRewriter order es o c e → o ≡ None → Each (λ z. ¬ IsReducer order c z) es → ⊥
no_rewriter order es o c e x y n = not_first (IsReducer order c) es e (subst (λ (u : Option Name). (IsRewriter order) es u c e) y x) n

ready_not_none : (s : Local) (j : ℕ) → IsFirstReady s j → NoneReady s → ⊥
ready_not_none s j f n = ready_clash s (length f.front) f.letter n (split_there s.waiting f.front f.letter f.back f.split) f.ready

front_of : {A : Type 0} (xs : List A) (j : ℕ) (x : A) → slice_get xs j ≡ Some x → j ≡ 0 → (ys : List A) × (xs ≡ x ∷ ys)
front_of [] zero x h e = cc
front_of [] (suc j) x h e = cc
front_of (y ∷ ys) zero x h e = (ys, (let u : y ≡ x = cc in ap (λ z. z ∷ ys) u))
front_of (y ∷ ys) (suc j) x h e = absurd (omega (arith, e))

abbrev Reduct : Order → Known → Item → Clause → Type 0
Reduct order e it x = (side : ℕ) × (j : ℕ) × (path : List ℕ) × (t : List Term) × ReductAt order e.entry.clause it.clause side j path t x

abbrev Unnamed : Local → Item → Type 0
Unnamed s it = (65536 ≤ s.next_seq) × (¬ IsTautology it.clause) × Each (λ e. ¬ IsSubsumer it.clause e) s.known × (is_empty it.clause ≡ false)

data ItemKind (order : Order) (s : Local) (it : Item) (a : Act) : Type 0 where
  rewritten' : (s.units < s.limits.steps) → (e : Known) → IsRewriter order s.known it.forced it.clause e → (x : Clause) → Reduct order e it x → IsWithin x → a ≡ Rewrite 0 → ItemKind order s it a
  spent' : (s.units ≡ s.limits.steps) → (e : Known) → IsRewriter order s.known it.forced it.clause e → a ≡ End verdict.Spent → ItemKind order s it a
  large' : (s.units < s.limits.steps) → (e : Known) → IsRewriter order s.known it.forced it.clause e → (x : Clause) → Reduct order e it x → (IsWithin x → ⊥) → a ≡ End (verdict.Limit bound'.Bounds) → ItemKind order s it a
  kept' : it.forced ≡ None → Each (λ z. ¬ IsReducer order it.clause z) s.known → (Unnamed s it → ⊥) → a ≡ Keep 0 → ItemKind order s it a
  full' : it.forced ≡ None → Each (λ z. ¬ IsReducer order it.clause z) s.known → Unnamed s it → a ≡ End (verdict.Limit bound'.Names) → ItemKind order s it a

data TaskKind (order : Order) (s : Local) (t : Task) (a : Act) : Type 0 where
  works' : (s.units < s.limits.steps) → (found : List Conclusion) → Concludes order (registry_of s) t found → Each IsConclusionWithin found → a ≡ Work t → TaskKind order s t a
  over' : (s.units ≡ s.limits.steps) → a ≡ End verdict.Spent → TaskKind order s t a
  wide' : (s.units < s.limits.steps) → (found : List Conclusion) → Concludes order (registry_of s) t found → (Each IsConclusionWithin found → ⊥) → a ≡ End (verdict.Limit bound'.Bounds) → TaskKind order s t a

data Phase (order : Order) (p : Problem) (s : Local) (a : Act) : Type 0 where
  letter' : (j : ℕ) → IsFirstReady s j → (l : Letter) → slice_get s.waiting j ≡ Some l → IsAcceptable order p s l → a ≡ Admit j → Phase order p s a
  refused' : (j : ℕ) → IsFirstReady s j → (l : Letter) → slice_get s.waiting j ≡ Some l → (IsAcceptable order p s l → ⊥) → a ≡ Reject j → Phase order p s a
  item' : NoneReady s → (it : Item) (others : List Item) → s.pending ≡ it ∷ others → ItemKind order s it a → Phase order p s a
  task' : NoneReady s → s.pending ≡ [] → (t : Task) (others : List Task) → s.owed ≡ t ∷ others → TaskKind order s t a → Phase order p s a
  pass' : NoneReady s → s.pending ≡ [] → s.owed ≡ [] → (t : Token) → s.token ≡ Some t → (MayDeclare s t → ⊥) → a ≡ Pass → Phase order p s a
  declare' : NoneReady s → s.pending ≡ [] → s.owed ≡ [] → (t : Token) → s.token ≡ Some t → MayDeclare s t → a ≡ Declare → Phase order p s a

phase_of : (order : Order) → (p : Problem) (s : Local) (a : Act) (f : Found a) → Fits order p s a f → IsFirstAct order s a → Phase order p s a
phase_of order p s (Rewrite j) f fits c =
    let r = front_of s.pending j f.item fits.there c.1 in
    item' c.0 f.item r.0 r.1 (rewritten' fits.left f.equation fits.rewriter f.reduct (f.side, f.literal, f.path, f.subst, fits.reduces) fits.within (ap Rewrite c.1))
phase_of order p s (Keep j) f fits c =
    let r = front_of s.pending j f.item fits.there c.1 in
    item' c.0 f.item r.0 r.1 (kept' fits.free fits.irreducible (nameable f.outcome fits.outcome) (ap Keep c.1))
  where
    nameable : (o : Outcome) → OutcomeFits s f.item o → Unnamed s f.item → ⊥
    nameable (Named m) x u = elim x.3 [ inl y ↦ (let z = u.0 in absurd (omega (arith, y, z))) | inr y ↦ clash (is_empty f.item.clause) y u.3 ]
    nameable Trivial x u = u.1 x
    nameable (Subsumed m) x u = not_first (IsSubsumer f.item.clause) s.known x.1.0 x.1.1 u.2
phase_of order p s (Receive l) f fits c = absurd c
phase_of order p s (Admit j) f fits c = letter' j c f.letter fits.there fits.fine refl
phase_of order p s (Reject j) f fits c = refused' j c f fits.there fits.bad refl
phase_of order p s (Work t) f fits c =
    task' c.0 c.1.0 c.1.1.0 c.1.1.1 c.1.1.2 (works' fits.0 f.found (subst (λ (u : Task). (Concludes order) (registry_of s) u f.found) (sym c.1.1.3) fits.1.concludes) fits.1.within (ap Work (sym c.1.1.3)))
phase_of order p s Pass f fits c = pass' c fits.0.pending fits.0.owed f fits.1 fits.2 refl
phase_of order p s Declare f fits c = declare' c fits.0.pending fits.0.owed f fits.1 fits.2 refl
phase_of order p s (End v) f fits c = ends v fits c.1
  where
    ends : (v : Verdict) → EndFits order s v → EndsFirst order s v → Phase order p s (End v)
    ends verdict.Refuted x y = absurd y
    ends verdict.Saturated x y = absurd y
    ends verdict.Spent x (inl y) = item' c.0 y.0 y.1 y.2 (spent' x.0 y.3.0 y.3.1 refl)
    ends verdict.Spent x (inr y) = task' c.0 y.0 y.1.0 y.1.1 y.1.2 (over' x.0 refl)
    ends (verdict.Limit bound'.Bounds) x (inl y) = item' c.0 y.0 y.1 y.2 (large' x.0 y.3.0.equation y.3.2 y.3.0.reduct (y.3.0.side, y.3.0.literal, y.3.0.path, y.3.0.subst, y.3.3) y.3.4 refl)
    ends (verdict.Limit bound'.Bounds) x (inr y) = task' c.0 y.0 y.1.0 y.1.1 y.1.2 (wide' x.0 y.1.3.0 y.1.3.1 y.1.3.2 refl)
    ends (verdict.Limit bound'.Names) x y = item' c.0 y.0 y.1 y.2 (full' y.3.0 y.3.1 (x.0, y.3.2, y.3.3, y.3.4) refl)

module _ (order : Order) (q : Premises order) (d : Decisions order) (p : Problem) (s : Local) where
  reduct_same : (it : Item) (e f : Known) (x y : Clause) → IsRewriter order s.known it.forced it.clause e → IsRewriter order s.known it.forced it.clause f → Reduct order e it x → Reduct order f it y → x ≡ y
  reduct_same it e f x y r t u v =
      let same = rewriter_once order s.known it.forced it.clause e f r t in
      let u' : Reduct order f it x = subst (λ (z : Known). (Reduct order) z it x) same u in
      d.reduct_once f.entry.clause it.clause u'.0 u'.1 v.0 v.1 u'.2 v.2 u'.3 v.3 x y u'.4 v.4

  items_agree : (it : Item) (a b : Act) → ItemKind order s it a → ItemKind order s it b → a ≡ b
  items_agree it a b (rewritten' l e r x u w h) (rewritten' l' e' r' x' u' w' h') = h ∙ sym h'
  items_agree it a b (rewritten' l e r x u w h) (spent' l' e' r' h') = absurd (omega (arith, l, l'))
  items_agree it a b (rewritten' l e r x u w h) (large' l' e' r' x' u' w' h') = absurd (w' (subst IsWithin (reduct_same it e e' x x' r r' u u') w))
  items_agree it a b (rewritten' l e r x u w h) (kept' f n k h') = absurd (no_rewriter order s.known it.forced it.clause e r f n)
  items_agree it a b (rewritten' l e r x u w h) (full' f n k h') = absurd (no_rewriter order s.known it.forced it.clause e r f n)
  items_agree it a b (spent' l e r h) (rewritten' l' e' r' x' u' w' h') = absurd (omega (arith, l, l'))
  items_agree it a b (spent' l e r h) (spent' l' e' r' h') = h ∙ sym h'
  items_agree it a b (spent' l e r h) (large' l' e' r' x' u' w' h') = absurd (omega (arith, l, l'))
  items_agree it a b (spent' l e r h) (kept' f n k h') = absurd (no_rewriter order s.known it.forced it.clause e r f n)
  items_agree it a b (spent' l e r h) (full' f n k h') = absurd (no_rewriter order s.known it.forced it.clause e r f n)
  items_agree it a b (large' l e r x u w h) (rewritten' l' e' r' x' u' w' h') = absurd (w (subst IsWithin (reduct_same it e' e x' x r' r u' u) w'))
  items_agree it a b (large' l e r x u w h) (spent' l' e' r' h') = absurd (omega (arith, l, l'))
  items_agree it a b (large' l e r x u w h) (large' l' e' r' x' u' w' h') = h ∙ sym h'
  items_agree it a b (large' l e r x u w h) (kept' f n k h') = absurd (no_rewriter order s.known it.forced it.clause e r f n)
  items_agree it a b (large' l e r x u w h) (full' f n k h') = absurd (no_rewriter order s.known it.forced it.clause e r f n)
  items_agree it a b (kept' f n k h) (rewritten' l e r x u w h') = absurd (no_rewriter order s.known it.forced it.clause e r f n)
  items_agree it a b (kept' f n k h) (spent' l e r h') = absurd (no_rewriter order s.known it.forced it.clause e r f n)
  items_agree it a b (kept' f n k h) (large' l e r x u w h') = absurd (no_rewriter order s.known it.forced it.clause e r f n)
  items_agree it a b (kept' f n k h) (kept' f' n' k' h') = h ∙ sym h'
  items_agree it a b (kept' f n k h) (full' f' n' k' h') = absurd (k k')
  items_agree it a b (full' f n k h) (rewritten' l e r x u w h') = absurd (no_rewriter order s.known it.forced it.clause e r f n)
  items_agree it a b (full' f n k h) (spent' l e r h') = absurd (no_rewriter order s.known it.forced it.clause e r f n)
  items_agree it a b (full' f n k h) (large' l e r x u w h') = absurd (no_rewriter order s.known it.forced it.clause e r f n)
  items_agree it a b (full' f n k h) (kept' f' n' k' h') = absurd (k' k)
  items_agree it a b (full' f n k h) (full' f' n' k' h') = h ∙ sym h'

  found_same : (t : Task) (f g : List Conclusion) → Concludes order (registry_of s) t f → Concludes order (registry_of s) t g → f ≡ g
  found_same (Solo a) f g x y =
      let same : Some x.0 ≡ Some y.0 = sym x.1 ∙ y.1 in
      let z : x.0 ≡ y.0 = cc in
      q.solo_once a x.0.clause f g x.2 (subst (λ (r : Record). (SoloConcludes order) a r.clause g) (sym z) y.2)
  found_same (Pair a b) f g x y =
      let same : Some x.0 ≡ Some y.0 = sym x.2 ∙ y.2 in
      let more : Some x.1 ≡ Some y.1 = sym x.3 ∙ y.3 in
      let z : x.0 ≡ y.0 = cc in
      let u : x.1 ≡ y.1 = cc in
      q.pair_once a b x.0.clause x.1.clause f g x.4 (subst (λ (r : Record). (PairConcludes order) a r.clause b x.1.clause g) (sym z) (subst (λ (r : Record). (PairConcludes order) a y.0.clause b r.clause g) (sym u) y.4))

  tasks_agree : (t : Task) (a b : Act) → TaskKind order s t a → TaskKind order s t b → a ≡ b
  tasks_agree t a b (works' l f c w h) (works' l' f' c' w' h') = h ∙ sym h'
  tasks_agree t a b (works' l f c w h) (over' l' h') = absurd (omega (arith, l, l'))
  tasks_agree t a b (works' l f c w h) (wide' l' f' c' w' h') = absurd (w' (subst (Each IsConclusionWithin) (found_same t f f' c c') w))
  tasks_agree t a b (over' l h) (works' l' f' c' w' h') = absurd (omega (arith, l, l'))
  tasks_agree t a b (over' l h) (over' l' h') = h ∙ sym h'
  tasks_agree t a b (over' l h) (wide' l' f' c' w' h') = absurd (omega (arith, l, l'))
  tasks_agree t a b (wide' l f c w h) (works' l' f' c' w' h') = absurd (w (subst (Each IsConclusionWithin) (found_same t f' f c' c) w'))
  tasks_agree t a b (wide' l f c w h) (over' l' h') = absurd (omega (arith, l, l'))
  tasks_agree t a b (wide' l f c w h) (wide' l' f' c' w' h') = h ∙ sym h'

  token_same' : (t u : Token) → s.token ≡ Some t → s.token ≡ Some u → t ≡ u
  token_same' t u x y = let z : Some t ≡ Some u = sym x ∙ y in cc

  letter_same : (j k : ℕ) (l m : Letter) → IsFirstReady s j → IsFirstReady s k → slice_get s.waiting j ≡ Some l → slice_get s.waiting k ≡ Some m → l ≡ m
  letter_same j k l m f g x y =
      let z : Some l ≡ Some m = sym x ∙ (ap (slice_get s.waiting) (place_once s j k f g) ∙ y) in cc

  acts_agree : (a b : Act) → Phase order p s a → Phase order p s b → a ≡ b
  acts_agree a b (letter' j f l u y h) (letter' j' f' l' u' y' h') = h ∙ (ap Admit (place_once s j j' f f') ∙ sym h')
  acts_agree a b (letter' j f l u y h) (refused' j' f' l' u' y' h') = absurd (y' (subst (IsAcceptable order p s) (letter_same j j' l l' f f' u u') y))
  acts_agree a b (refused' j f l u y h) (letter' j' f' l' u' y' h') = absurd (y (subst (IsAcceptable order p s) (letter_same j' j l' l f' f u' u) y'))
  acts_agree a b (refused' j f l u y h) (refused' j' f' l' u' y' h') = h ∙ (ap Reject (place_once s j j' f f') ∙ sym h')
  acts_agree a b (letter' j f l u y h) (item' n' it' o' e' k') = absurd (ready_not_none s j f n')
  acts_agree a b (letter' j f l u y h) (task' n' z' t' o' e' k') = absurd (ready_not_none s j f n')
  acts_agree a b (letter' j f l u y h) (pass' n' z' y' t' e' m' h') = absurd (ready_not_none s j f n')
  acts_agree a b (letter' j f l u y h) (declare' n' z' y' t' e' m' h') = absurd (ready_not_none s j f n')
  acts_agree a b (refused' j f l u y h) (item' n' it' o' e' k') = absurd (ready_not_none s j f n')
  acts_agree a b (refused' j f l u y h) (task' n' z' t' o' e' k') = absurd (ready_not_none s j f n')
  acts_agree a b (refused' j f l u y h) (pass' n' z' y' t' e' m' h') = absurd (ready_not_none s j f n')
  acts_agree a b (refused' j f l u y h) (declare' n' z' y' t' e' m' h') = absurd (ready_not_none s j f n')
  acts_agree a b (item' n it o e k) (letter' j' f' l' u' y' h') = absurd (ready_not_none s j' f' n)
  acts_agree a b (item' n it o e k) (refused' j' f' l' u' y' h') = absurd (ready_not_none s j' f' n)
  acts_agree a b (task' n z t o e k) (letter' j' f' l' u' y' h') = absurd (ready_not_none s j' f' n)
  acts_agree a b (task' n z t o e k) (refused' j' f' l' u' y' h') = absurd (ready_not_none s j' f' n)
  acts_agree a b (pass' n z y t e m h) (letter' j' f' l' u' y' h') = absurd (ready_not_none s j' f' n)
  acts_agree a b (pass' n z y t e m h) (refused' j' f' l' u' y' h') = absurd (ready_not_none s j' f' n)
  acts_agree a b (declare' n z y t e m h) (letter' j' f' l' u' y' h') = absurd (ready_not_none s j' f' n)
  acts_agree a b (declare' n z y t e m h) (refused' j' f' l' u' y' h') = absurd (ready_not_none s j' f' n)
  acts_agree a b (item' n it o e k) (item' n' it' o' e' k') =
      let same : it' ≡ it = (let u : it' ∷ o' ≡ it ∷ o = sym e' ∙ e in cc) in
      items_agree it a b k (subst (λ (u : Item). (ItemKind order) s u b) same k')
  acts_agree a b (item' n it o e k) (task' n' z' t' o' e' k') = absurd (cons_nil s.pending it o e z')
  acts_agree a b (item' n it o e k) (pass' n' z' y' t' e' m' h') = absurd (cons_nil s.pending it o e z')
  acts_agree a b (item' n it o e k) (declare' n' z' y' t' e' m' h') = absurd (cons_nil s.pending it o e z')
  acts_agree a b (task' n z t o e k) (item' n' it' o' e' k') = absurd (cons_nil s.pending it' o' e' z)
  acts_agree a b (task' n z t o e k) (task' n' z' t' o' e' k') =
      let same : t' ≡ t = (let u : t' ∷ o' ≡ t ∷ o = sym e' ∙ e in cc) in
      tasks_agree t a b k (subst (λ (u : Task). (TaskKind order) s u b) same k')
  acts_agree a b (task' n z t o e k) (pass' n' z' y' t' e' m' h') = absurd (cons_nil s.owed t o e y')
  acts_agree a b (task' n z t o e k) (declare' n' z' y' t' e' m' h') = absurd (cons_nil s.owed t o e y')
  acts_agree a b (pass' n z y t e m h) (item' n' it' o' e' k') = absurd (cons_nil s.pending it' o' e' z)
  acts_agree a b (pass' n z y t e m h) (task' n' z' t' o' e' k') = absurd (cons_nil s.owed t' o' e' y)
  acts_agree a b (declare' n z y t e m h) (item' n' it' o' e' k') = absurd (cons_nil s.pending it' o' e' z)
  acts_agree a b (declare' n z y t e m h) (task' n' z' t' o' e' k') = absurd (cons_nil s.owed t' o' e' y)
  acts_agree a b (pass' n z y t e m h) (pass' n' z' y' t' e' m' h') = h ∙ sym h'
  acts_agree a b (pass' n z y t e m h) (declare' n' z' y' t' e' m' h') = absurd (m (subst (MayDeclare s) (token_same' t' t e' e) m'))
  acts_agree a b (declare' n z y t e m h) (pass' n' z' y' t' e' m' h') = absurd (m' (subst (MayDeclare s) (token_same' t t' e e') m))
  acts_agree a b (declare' n z y t e m h) (declare' n' z' y' t' e' m' h') = h ∙ sym h'

same_event : (e f : Event) → e.time ≡ f.time → e.peer ≡ f.peer → e.act ≡ f.act → e ≡ f
same_event e f x y z = ap (λ t. event_of t e.peer e.act) x ∙ (ap (λ k. event_of f.time k e.act) y ∙ ap (λ a. event_of f.time f.peer a) z)
  where
    event_of : ℕ → ℕ → Act → Event
    event_of t k a = record { time = t; peer = k; act = a }

module _ (order : Order) (q : Premises order) (d : Decisions order) (p : Problem) (s : Local) where
  turn_once : (t u : HasTurn order p s) → t.event ≡ u.event
  turn_once t u =
      let phase = λ (x : HasTurn order p s). (phase_of order) p s x.event.act x.found x.legal.fits x.first in
      let acts = acts_agree order q d p s t.event.act u.event.act (phase t) (phase u) in
      same_event t.event u.event (t.legal.time ∙ (ap (clock_after s.clock) acts ∙ sym u.legal.time)) (t.legal.own ∙ sym u.legal.own) acts

-- one peer
pub turning : (order : Order) → Premises order → Decisions order → (p : Problem) (s : Local) → CanTurn order p s → s.verdict ≡ None → IsTurning order p s
turning order q d p s can run = record {
  one = one order q d p s can run;
  idle = λ h t. idle_none order p s t.event.act t.found t.legal.fits t.first h;
  once = turn_once order q d p s;
}

-- ---- a peer of a world
module _ (order : Order) (q : Premises order) (p : Problem) (policy : Policy) (w : World) (i : IsSound order p policy w) (k : ℕ) (l : k < length w.locals)
    (b : IsBounded (at w k)) (g : Each (ItemKnown (at w k).known) (at w k).pending) where
  forced_here : (o : Origin) (c : Clause) (n : Name) → ForcedRework o (Some n) → ItemFalls order (record_of w) o (Some n) c → is_known (at w k).known n ≡ true → (e : Known) × (look (at w k).known n ≡ Some e) × Reduces order e.entry.clause c
  forced_here (origin.Input j) c n x y z = absurd (let u : Some n ≡ None = x in cc)
  forced_here (origin.Task t j) c n x y z = absurd (let u : Some n ≡ None = x in cc)
  forced_here (origin.Rework m) c n x y z =
      let e = known_entry order q p policy w i k l n y.2.1.winner z y.2.1.recorded in
      (e.0, e.1, subst (λ (u : Clause). (Reduces order) e.0.entry.clause u) (sym y.2.0) (subst (λ (u : Record). (Reduces order) u.clause y.0.clause) (sym e.2) y.2.1.hits))

  item_here : (it : Item) → ForcedRework it.origin it.forced → TrueItem order p (record_of w) (at w k).me it → ItemKnown (at w k).known it → IsForcedHere order (at w k).known it
  item_here it x y z n e =
      forced_here it.origin it.clause n (subst (ForcedRework it.origin) e x) (subst (λ (u : Option Name). (ItemFalls order) (record_of w) it.origin u it.clause) e y.falls)
      (subst (ForcedKnown (at w k).known) e z.1)

  -- the names of an owed task are known here
  positive : {A : Type 0} (t : A → Bool) (xs : List A) → 0 < tally t xs → list_any t xs ≡ true
  positive t xs h = go (list_any t xs) refl
    where
      go : (x : Bool) → list_any t xs ≡ x → x ≡ true
      go true e = refl
      go false e = absurd (let z = none_of_tally t xs e in omega (arith, z, h))

  is_here : (n : Name) → 0 < held_times n (at w k) → (r : Record) × (recorded n (at w k).known ≡ Some r)
  is_here n h = recorded_known n (at w k).known (positive (is_of n) (at w k).known (let a = tally_under (is_of n) (λ e. is_held e) (at w k).known in omega (arith, a, h)))

  home_here : (n : Name) → 0 < home_times n (at w k) → (r : Record) × (recorded n (at w k).known ≡ Some r)
  home_here n h = recorded_known n (at w k).known (positive (is_of n) (at w k).known (let a = tally_under (is_of n) (λ e. is_held e && eqb e.entry.owner (at w k).me) (at w k).known in omega (arith, a, h)))

  more_than : (a : ℕ) → (a ≡ 0 → ⊥) → 0 < a
  more_than zero h = absurd (h refl)
  more_than (suc a) h = omega arith

  task_here : (t : Task) → 0 < owed_times t (at w k) → IsTaskHere (at w k).known t
  task_here (Solo a) h =
      let o = i.solos k l a in
      home_here a (more_than (home_times a (at w k)) (λ z. (let x = o.first z in omega (arith, x, h))))
  task_here (Pair a c) h =
      let o = i.pairs k l a c in (
        is_here a (more_than (held_times a (at w k)) (λ z. (let y = o.first z in omega (arith, y, h)))),
        home_here c (more_than (home_times c (at w k)) (λ z. (let y = o.second z in omega (arith, y, h)))),
      )

  task_refl : (t : Task) → task_eq t t ≡ true
  task_refl (Solo a) = name_eq_refl a
  task_refl (Pair a c) = rw (name_eq_refl a) (name_eq_refl c)

  each_place : {A : Type 0} (P : A → Type 0) (xs : List A) → ((j : ℕ) (x : A) → slice_get xs j ≡ Some x → P x) → Each P xs
  each_place P [] h = tt
  each_place P (x ∷ xs) h = (h 0 x refl, each_place P xs (λ j y e. h (suc j) y e))

  can_turn : CanTurn order p (at w k)
  can_turn = record {
    units = b.units;
    forced = each_place (IsForcedHere order (at w k).known) (at w k).pending (λ j it e. item_here it
        (Each_at (λ x. ForcedRework x.origin x.forced) (at w k).pending j it e b.forced)
        (Each_at (TrueItem order p (record_of w) (at w k).me) (at w k).pending j it e (i.truth.locals k l).pending)
        (Each_at (ItemKnown (at w k).known) (at w k).pending j it e g));
    tasks = each_place (IsTaskHere (at w k).known) (at w k).owed (λ j t e. task_here t (tally_at (task_eq t) (at w k).owed j t e (task_refl t)));
    letters = λ j l' e r. inl (acceptable order q p policy w i k l j l' e r);
  }

pub runs_turn : (order : Order) → RunsTurn order
runs_turn order q d p policy limits start w es s r k l run =
    let i = run_sound order q p policy es start w r (start_sound order q p policy limits s.fit start s) in
    let bounded = bounded_run order p es start w r (λ j m. (let f = s.fresh j m in rw f.2 (record { forced = share_forced j (length start.locals) 0 (clauses_of p) f.0 f.1; units = omega arith }))) k l in
    turning order q d p (at w k) (can_turn order q p policy w i k l bounded (runs_led order q p policy limits start w es s r k l).1) run
