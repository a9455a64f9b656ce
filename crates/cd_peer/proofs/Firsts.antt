-- What is chosen is first, and fits.
use Rattle.std.proofs.Common.{◌≡◌, ℕ, ◌<◌, ◌≤◌, List, [], ◌∷◌, ◌++◌, length, true, false, refl, ap, sym, ◌∙◌, subst, inl, inr}
use Rattle.std.specs.Prelude.{Option, Some, None, slice_get}
use Rattle.std.specs.List.{AllByRecursion as Each}
use Rattle.cd_acts.proofs.Names.{look_at, name_eq_true, name_same, only_at}
use Rattle.cd_acts.specs.Acts.{IsTaskKnown, MayAdmit, MayKeep, MayReject, MayRewrite, MayWork}
use Rattle.cd_acts.specs.Answers.{IsFirstNamed, IsReduct, IsReductOutside}
use Rattle.cd_acts.specs.Indexed.{AreOnce}
use Rattle.cd_infer.specs.declared.Conclusion.{Conclusion}
use Rattle.cd_kbo.specs.declared.order.Order.{Order}
use Rattle.cd_laws.specs.Turns.{Decisions, IsForcedHere, IsTaskHere}
use Rattle.cd_ledger.specs.Records.{is_of, look}
use Rattle.cd_ledger.specs.declared.events.Bound.TheVariants.{Bounds, Names}
use Rattle.cd_ledger.specs.declared.events.Verdict.TheVariants.{Limit, Spent}
use Rattle.cd_ledger.specs.declared.items.Item.{Item}
use Rattle.cd_ledger.specs.declared.items.Outcome.{Outcome}
use Rattle.cd_ledger.specs.declared.letters.Letter.{Letter}
use Rattle.cd_ledger.specs.declared.local.Local.{Local}
use Rattle.cd_ledger.specs.declared.records.Known.{Known}
use Rattle.cd_list.proofs.Lists.{found_at, get_at}
use Rattle.cd_machine.specs.Acts.{Concludes, Rewritten}
use Rattle.cd_machine.specs.Fits.{IsAcceptable, OutcomeFits, is_ready}
use Rattle.cd_machine.specs.Hits.{IsReducer, IsRewriter, IsSubsumer}
use Rattle.cd_machine.specs.Right.{registry_of}
use Rattle.cd_machine.specs.Rules.{IsConclusionWithin, IsTautology, IsWithin, Reduces, is_empty}
use Rattle.cd_machine.specs.Turns.{IsFirstReady, NoneReady}
use Rattle.cd_names.specs.declared.names.Name.{Name}
use Rattle.cd_read.specs.declared.problem.Problem.{Problem}
use Rattle.cd_rewrite.specs.declared.reducing.ReductAt.{ReductAt as Reduct}
use Rattle.cd_tasks.specs.declared.Task.{Task}
use Rattle.cd_tasks.specs.declared.Task.TheVariants.{Pair, Solo}
use Rattle.cd_peer.specs.Choices.{IsRewriterNamed, MayEnd}

-- ---- lists

pub none_first : {A : Type 0} (xs : List A) → None ≡ slice_get xs 0 → xs ≡ []
none_first [] h = refl
none_first (x ∷ xs) h = absurd cc

pub front_of : {A : Type 0} (xs : List A) (x : A) → slice_get xs 0 ≡ Some x → (ys : List A) × (xs ≡ x ∷ ys)
front_of [] x h = absurd cc
front_of {A} (y ∷ ys) x h = (ys, (let e : Some y ≡ Some x = h in let f : y ≡ x = cc in ap (λ (z : A). z ∷ ys) f))

-- ---- letters

pub first_there : (s : Local) (place : ℕ) (f : IsFirstReady s place) → slice_get s.waiting place ≡ Some f.letter
first_there s place f =
    ap (λ (ls : List Letter). slice_get ls place) f.split ∙ ap (λ (k : ℕ). slice_get (f.front ++ f.letter ∷ f.back) k) f.at ∙ get_at f.front f.back f.letter

module _ (s : Local) (place : ℕ) (f : IsFirstReady s place) (l : Letter) (there : slice_get s.waiting place ≡ Some l) where
  pub same_letter : f.letter ≡ l
  same_letter = let e : Some f.letter ≡ Some l = sym (first_there s place f) ∙ there in cc

  ready_there : is_ready s.known l ≡ true
  ready_there = subst (λ (x : Letter). is_ready s.known x ≡ true) same_letter f.ready

  pub may_admit : (order : Order) (p : Problem) → IsAcceptable order p s l → MayAdmit order p s place
  may_admit order p fine = record { letter = l; there = there; ready = ready_there; fine = fine }

  pub may_reject : (order : Order) (p : Problem) → (IsAcceptable order p s l → ⊥) → MayReject order p s place
  may_reject order p bad = record { letter = l; there = there; ready = ready_there; bad = bad }

-- ---- what rewrites an item

module _ (order : Order) (es : List Known) (i : Item) (by : Name) where
  pub forced_named : IsForcedHere order es i → i.forced ≡ Some by → IsRewriterNamed order es i by
  forced_named h f =
      let x = h by f in
      record {
        equation = x.0;
        there = x.1;
        named = sym (name_eq_true x.0.entry.name by (found_at (is_of by) es x.0 x.1).passes);
        rewriter = subst (λ (o : Option Name). IsRewriter order es o i.clause x.0) (sym f) x.1;
        reduces = x.2;
      }

  pub reduced_named : AreOnce es → i.forced ≡ None → IsFirstNamed (IsReducer order i.clause) es by → IsRewriterNamed order es i by
  reduced_named once f h =
      let x = h.1 in
      let at : slice_get es (length x.front) ≡ Some h.0 = ap (λ (xs : List Known). slice_get xs (length x.front)) x.split ∙ get_at x.front x.back h.0 in
      record {
        equation = h.0;
        there = look_at by es (length x.front) h.0 (only_at by es (length x.front) h.0 once at (name_same h.0.entry.name by (sym h.2)));
        named = h.2;
        rewriter = subst (λ (o : Option Name). IsRewriter order es o i.clause h.0) (sym f) h.1;
        reduces = x.is.2;
      }

  -- what is found under the name is the equation
  pub equation_is : (x : IsRewriterNamed order es i by) (e : Known) → Some e ≡ look es by → x.equation ≡ e
  equation_is x e h = let g : Some x.equation ≡ Some e = sym x.there ∙ sym h in cc

  pub rewriter_there : IsRewriterNamed order es i by → (e : Known) → Some e ≡ look es by → IsRewriter order es i.forced i.clause e
  rewriter_there x e h = subst (λ (k : Known). IsRewriter order es i.forced i.clause k) (equation_is x e h) x.rewriter

  pub reduces_there : IsRewriterNamed order es i by → (e : Known) → Some e ≡ look es by → Reduces order e.entry.clause i.clause
  reduces_there x e h = subst (λ (k : Known). Reduces order k.entry.clause i.clause) (equation_is x e h) x.reduces

  pub name_there : IsRewriterNamed order es i by → (e : Known) → Some e ≡ look es by → by ≡ e.entry.name
  name_there x e h = subst (λ (k : Known). by ≡ k.entry.name) (equation_is x e h) x.named

  pub some_there : IsRewriterNamed order es i by → None ≡ look es by → ⊥
  some_there x h = let g : None ≡ Some x.equation = h ∙ x.there in cc

-- ---- tasks

pub task_known : (es : List Known) (t : Task) → IsTaskHere es t → IsTaskKnown es t
task_known es (Solo a) h = h
task_known es (Pair a b) h = h

pub conclusions_there : (order : Order) → Decisions order → (s : Local) (t : Task) → IsTaskHere s.known t → (found : List Conclusion) × Concludes order (registry_of s) t found
conclusions_there order d s (Solo a) h = let f = d.solo a h.0.clause in (f.0, (h.0, h.1, f.1))
conclusions_there order d s (Pair a b) h = let f = d.pair a b h.0.0.clause h.1.0.clause in (f.0, (h.0.0, h.1.0, h.0.1, h.1.1, f.1))

-- ---- what is first, and fits

module _ (order : Order) (s : Local) (none : NoneReady s) where
  module _ (i : Item) (there : slice_get s.pending 0 ≡ Some i) where
    pub may_keep : (o : Outcome) → i.forced ≡ None → Each (λ e. ¬ IsReducer order i.clause e) s.known → OutcomeFits s i o → MayKeep order s o
    may_keep o f irr fits = let x = front_of s.pending i there in record { item = i; others = x.0; pending = x.1; free = f; irreducible = irr; fits = fits }

    pub may_rewrite : (by : Name) (e : Known) (r : Reduct) → by ≡ e.entry.name → IsRewriter order s.known i.forced i.clause e → IsReduct order e.entry.clause i.clause r → IsWithin r.clause → s.units < s.limits.steps
        → MayRewrite order s by r
    may_rewrite by e r name w red within left = let x = front_of s.pending i there in
        record { item = i; others = x.0; pending = x.1; equation = e; rewriter = w; name = name; reduces = red; within = within; left = left }

    pub spent_item : (e : Known) → IsRewriter order s.known i.forced i.clause e → s.units ≡ s.limits.steps → MayEnd order s Spent
    spent_item e w u = let x = front_of s.pending i there in
        record { none = none; first = inl (i, x.0, x.1, (e, w)); fits = (u, inr (0, i, there, (e, w))) }

    pub item_bounds : (e : Known) → IsRewriter order s.known i.forced i.clause e → IsReductOutside order e.entry.clause i.clause → s.units < s.limits.steps → MayEnd order s (Limit Bounds)
    item_bounds e w r left = let x = front_of s.pending i there in
        let f : Rewritten = record { item = i; equation = e; side = r.side; literal = r.literal; path = r.path; subst = r.subst; reduct = r.clause; steps = []; clause = r.clause } in
        record { none = none; first = inl (i, x.0, x.1, (f, refl, w, r.reduces, r.outside)); fits = (left, inl (0, f, there, w, r.reduces, r.outside)) }

    pub no_names : i.forced ≡ None → Each (λ e. ¬ IsReducer order i.clause e) s.known → 65536 ≤ s.next_seq → (¬ IsTautology i.clause) → Each (λ e. ¬ IsSubsumer i.clause e) s.known → is_empty i.clause ≡ false → MayEnd order s (Limit Names)
    no_names f irr full t u em = let x = front_of s.pending i there in
        record { none = none; first = (i, x.0, x.1, (f, irr, t, u, em)); fits = (full, (0, i, there, f, irr, t, u, em)) }

  module _ (empty : s.pending ≡ []) (t : Task) (there : slice_get s.owed 0 ≡ Some t) where
    pub may_work : (found : List Conclusion) → Concludes order (registry_of s) t found → Each IsConclusionWithin found → s.units < s.limits.steps → MayWork order s t found
    may_work found c w left = let x = front_of s.owed t there in record { others = x.0; owed = x.1; concludes = c; within = w; left = left }

    pub spent_task : s.units ≡ s.limits.steps → MayEnd order s Spent
    spent_task u = let x = front_of s.owed t there in
        record { none = none; first = inr (empty, (t, x.0, x.1, tt)); fits = (u, inl (λ e. cons_not (sym x.1 ∙ e))) }
      where
        cons_not : {A : Type 0} {y : A} {ys : List A} → y ∷ ys ≡ [] → ⊥
        cons_not e = cc

    pub task_bounds : (found : List Conclusion) → Concludes order (registry_of s) t found → (Each IsConclusionWithin found → ⊥) → s.units < s.limits.steps → MayEnd order s (Limit Bounds)
    task_bounds found c out left = let x = front_of s.owed t there in
        record { none = none; first = inr (empty, (t, x.0, x.1, (found, c, out))); fits = (left, inr (t, 0, found, there, c, out)) }
