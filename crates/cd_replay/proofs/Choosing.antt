-- What becomes of an item, against what an act or an end asks of it.
use Rattle.std.proofs.Common.{◌≡◌, ℕ, ◌<◌, true, false, ◌||◌, List, [], ◌∷◌, ◌++◌, refl, ap, sym, ◌∙◌, subst, arith, inl, inr}
use Rattle.std.specs.Prelude.{◌⊎◌, ◌↔◌, IsTrue, Option, Some, None, slice_get}
use Rattle.std.specs.List.{AllByRecursion as Each}
use Rattle.std.proofs.lemmas.Bool.{false≢true}
use Rattle.cd_acts.specs.Answers.{IsConcluded, IsReductOutside}
use Rattle.cd_acts.specs.declared.rules.Concluded.{Concluded}
use Rattle.cd_acts.specs.declared.rules.Concluded.TheVariants as concluded
use Rattle.cd_clause.specs.declared.Clause.{Clause}
use Rattle.cd_infer.specs.declared.Conclusion.{Conclusion}
use Rattle.cd_kbo.specs.declared.order.Order.{Order}
use Rattle.cd_laws.proofs.Lists.{Each_first}
use Rattle.cd_laws.specs.Premises.{Premises}
use Rattle.cd_laws.specs.Turns.{Decisions, IsTaskHere}
use Rattle.cd_ledger.specs.Records.{Registry}
use Rattle.cd_ledger.specs.declared.events.Bound.TheVariants.{Bounds, Names}
use Rattle.cd_ledger.specs.declared.events.Verdict.{Verdict}
use Rattle.cd_ledger.specs.declared.events.Verdict.TheVariants.{Limit, Refuted, Saturated, Spent}
use Rattle.cd_ledger.specs.declared.items.Item.{Item}
use Rattle.cd_ledger.specs.declared.items.Outcome.{Outcome}
use Rattle.cd_ledger.specs.declared.items.Outcome.TheVariants.{Named, Subsumed, Trivial}
use Rattle.cd_ledger.specs.declared.local.Local.{Local}
use Rattle.cd_ledger.specs.declared.records.Known.{Known}
use Rattle.cd_ledger.specs.declared.records.Record.{Record}
use Rattle.cd_machine.specs.Acts.{Concludes, Rewritten}
use Rattle.cd_machine.specs.Events.{Keeping}
use Rattle.cd_machine.specs.Fits.{EndFits, IsRewritable, KeepFits, OutcomeFits, RewriteFits, TooLarge, WouldWork}
use Rattle.cd_machine.specs.Hits.{IsReducer, IsRewriter, IsSubsumer}
use Rattle.cd_machine.specs.Lists.{IsFirst}
use Rattle.cd_machine.specs.Right.{registry_of}
use Rattle.cd_machine.specs.Rules.{IsConclusionWithin, IsTautology, IsWithin, PairConcludes, ReductAt, SoloConcludes, is_empty}
use Rattle.cd_machine.specs.Turns.{ItemTooLarge, TaskTooLarge}
use Rattle.cd_names.specs.declared.names.Name.{Name}
use Rattle.cd_rewrite.specs.declared.reducing.ReductAt.{ReductAt as Reduct}
use Rattle.cd_peer.proofs.Firsts.{conclusions_there}
use Rattle.cd_tasks.specs.declared.Task.{Task}
use Rattle.cd_tasks.specs.declared.Task.TheVariants.{Pair, Solo}
use Rattle.cd_replay.specs.Ends.{Ends, ItemEnds, Somewhere, TaskEnds, ends_by, is_outside, is_bounds, is_names, is_spent}
use Rattle.cd_replay.specs.declared.prospects.Prospect.{Prospect}
use Rattle.cd_replay.specs.declared.prospects.Prospect.TheVariants as prospect
use Rattle.cd_replay.specs.Prospects.{IsProspect, IsRewritten, IsStable, LacksName}

-- ---- one rewriter

split_once : {A : Type 0} (P : A → Type 0) (f g : List A) (x y : A) (b c : List A) → f ++ x ∷ b ≡ g ++ y ∷ c → P x → Each (λ z. ¬ P z) f → P y → Each (λ z. ¬ P z) g → x ≡ y
split_once P [] [] x y b c e px nf py ng = cc
split_once P [] (z ∷ g) x y b c e px nf py ng = absurd (let u : x ≡ z = cc in ng.0 (subst P u px))
split_once P (z ∷ f) [] x y b c e px nf py ng = absurd (let u : z ≡ y = cc in nf.0 (subst P (sym u) py))
split_once P (z ∷ f) (u ∷ g) x y b c e px nf py ng = split_once P f g x y b c (let t : f ++ x ∷ b ≡ g ++ y ∷ c = cc in t) px nf.1 py ng.1

first_once : {A : Type 0} (P : A → Type 0) (xs : List A) (x y : A) → IsFirst P xs x → IsFirst P xs y → x ≡ y
first_once P xs x y f g = split_once P f.front g.front x y f.back g.back (sym f.split ∙ g.split) f.is f.first g.is g.first

not_first : {A : Type 0} (P : A → Type 0) (xs : List A) (x : A) → IsFirst P xs x → Each (λ z. ¬ P z) xs → ⊥
not_first P xs x f n = (let r = Each_first P (λ z. ¬ P z) xs x f n in r.1 r.0)

rewriter_once : (order : Order) (es : List Known) (f : Option Name) (c : Clause) (e x : Known) → IsRewriter order es f c e → IsRewriter order es f c x → e ≡ x
rewriter_once order es (Some d) c e x h g = (let k : Some e ≡ Some x = sym h ∙ g in cc)
rewriter_once order es None c e x h g = first_once (IsReducer order c) es e x h g

-- nothing rewrites what is stable
pub stable_never : (order : Order) (es : List Known) (i : Item) (e : Known) → IsStable order es i → IsRewriter order es i.forced i.clause e → ⊥
stable_never order es i e st h = not_first (IsReducer order i.clause) es e (subst (λ (o : Option Name). IsRewriter order es o i.clause e) st.free h) st.irreducible

pub too_large : (order : Order) (s : Local) (i : Item) (e : Known) → IsRewriter order s.known i.forced i.clause e → IsReductOutside order e.entry.clause i.clause → ItemTooLarge order s i
too_large order s i e w r =
    (record { item = i; equation = e; side = r.side; literal = r.literal; path = r.path; subst = r.subst; reduct = r.clause; steps = []; clause = r.clause }, refl, w, r.reduces, r.outside)

-- where a rewriting is within bounds, none is out of them
never_within : (order : Order) → Decisions order → (s : Local) (i : Item) (f : Rewritten) → IsRewriter order s.known i.forced i.clause f.equation
    → ReductAt order f.equation.entry.clause i.clause f.side f.literal f.path f.subst f.reduct → IsWithin f.reduct → ItemTooLarge order s i → ⊥
never_within order d s i f w red within t =
    let g = t.0 in
    let w' : IsRewriter order s.known i.forced i.clause g.equation = t.2 in
    let same : f.equation ≡ g.equation = rewriter_once order s.known i.forced i.clause f.equation g.equation w w' in
    let red' : ReductAt order g.equation.entry.clause i.clause g.side g.literal g.path g.subst g.reduct =
    t.3 in
    let once : f.reduct ≡ g.reduct =
    d.reduct_once g.equation.entry.clause i.clause f.side f.literal g.side g.literal f.path g.path f.subst g.subst f.reduct g.reduct
    (subst (λ (x : Known). ReductAt order x.entry.clause i.clause f.side f.literal f.path f.subst f.reduct) same red) red' in
    t.4 (subst IsWithin once within)

-- ---- outcomes

pub outcome_once : (order : Order) (s : Local) (i : Item) (o : Outcome) → LacksName order s.known s.next_seq i → OutcomeFits s i o → ⊥
outcome_once order s i (Named n) l h = go h.3
  where
    go : (s.next_seq < 65536) ⊎ (is_empty i.clause ≡ true) → ⊥
    go (inl less) = absurd (let full = l.full in omega (arith, full, less))
    go (inr empty) = false≢true (sym l.some_literal ∙ empty)
outcome_once order s i Trivial l h = l.no_tautology h
outcome_once order s i (Subsumed d) l h = not_first (IsSubsumer i.clause) s.known h.1.0 h.1.1 l.unsubsumed

pub outcome_owed : (s : Local) (owed : List Task) (i : Item) (o : Outcome) → OutcomeFits (record s { owed = owed }) i o → OutcomeFits s i o
outcome_owed s owed i (Named n) h = h
outcome_owed s owed i Trivial h = h
outcome_owed s owed i (Subsumed d) h = h

-- ---- acts on an item

module _ (order : Order) (s : Local) (place : ℕ) where
  pub absent_rewrite : None ≡ slice_get s.pending place → (f : Rewritten) → RewriteFits order s place f → ⊥
  absent_rewrite none f h = (let e : None ≡ Some f.item = none ∙ h.there in cc)

  pub absent_keep : None ≡ slice_get s.pending place → (f : Keeping) → KeepFits order s place f → ⊥
  absent_keep none f h = (let e : None ≡ Some f.item = none ∙ h.there in cc)

  module _ (i : Item) (there : Some i ≡ slice_get s.pending place) where
    rewritten_is : (f : Rewritten) → RewriteFits order s place f → f.item ≡ i
    rewritten_is f h = (let e : Some f.item ≡ Some i = sym h.there ∙ sym there in cc)

    kept_is : (f : Keeping) → KeepFits order s place f → f.item ≡ i
    kept_is f h = (let e : Some f.item ≡ Some i = sym h.there ∙ sym there in cc)

    pub stable_rewrite : IsStable order s.known i → (f : Rewritten) → RewriteFits order s place f → ⊥
    stable_rewrite st f h = stable_never order s.known i f.equation st (subst (λ (x : Item). IsRewriter order s.known x.forced x.clause f.equation) (rewritten_is f h) h.rewriter)

    pub large_rewrite : Decisions order → ItemTooLarge order s i → (f : Rewritten) → RewriteFits order s place f → ⊥
    large_rewrite d t f h = never_within order d s i f (subst (λ (x : Item). IsRewriter order s.known x.forced x.clause f.equation) (rewritten_is f h) h.rewriter)
        (subst (λ (x : Item). ReductAt order f.equation.entry.clause x.clause f.side f.literal f.path f.subst f.reduct) (rewritten_is f h) h.reduces) h.within t

    pub rewriter_keep : (e : Known) → IsRewriter order s.known i.forced i.clause e → (f : Keeping) → KeepFits order s place f → ⊥
    rewriter_keep e w f h = stable_never order s.known i e (record {
      free = subst (λ (x : Item). x.forced ≡ None) (kept_is f h) h.free;
      irreducible = subst (λ (x : Item). Each (λ k. ¬ IsReducer order x.clause k) s.known) (kept_is f h) h.irreducible;
    }) w

    pub nameless_keep : LacksName order s.known s.next_seq i → (f : Keeping) → KeepFits order s place f → ⊥
    nameless_keep l f h = outcome_once order s i f.outcome l (subst (λ (x : Item). OutcomeFits s x f.outcome) (kept_is f h) h.outcome)

-- ---- ends

module _ (order : Order) (s : Local) (i : Item) where
  pub rewritten_ends : Decisions order → (by : Name) (r : Reduct) → IsRewritten order s.known i by r → (v : Verdict) → IsTrue (is_spent v) ↔ ItemEnds order s v i
  rewritten_ends d by r h Refuted = (λ e. false≢true e, λ x. absurd x)
  rewritten_ends d by r h Saturated = (λ e. false≢true e, λ x. absurd x)
  rewritten_ends d by r h Spent = (λ e. (h.equation, h.rewriter), λ x. refl)
  rewritten_ends d by r h (Limit Bounds) = (
    λ e. absurd (false≢true e),
    λ x. absurd (never_within order d s i
        (record { item = i; equation = h.equation; side = r.s; literal = r.j; path = r.at; subst = r.subst; reduct = r.clause; steps = []; clause = r.clause }) h.rewriter h.reduces h.within x),
  )
  rewritten_ends d by r h (Limit Names) = (λ e. absurd (false≢true e), λ x. absurd (stable_never order s.known i h.equation x.stable h.rewriter))

  pub large_ends : ItemTooLarge order s i → (v : Verdict) → IsTrue (is_spent v || is_bounds v) ↔ ItemEnds order s v i
  large_ends t Refuted = (λ e. false≢true e, λ x. absurd x)
  large_ends t Saturated = (λ e. false≢true e, λ x. absurd x)
  large_ends t Spent = (λ e. (t.0.equation, t.2), λ x. refl)
  large_ends t (Limit Bounds) = (λ e. t, λ x. refl)
  large_ends t (Limit Names) = (λ e. absurd (false≢true e), λ x. absurd (stable_never order s.known i t.0.equation x.stable t.2))

  module _ (st : IsStable order s.known i) where
    not_rewritable : IsRewritable order s i → ⊥
    not_rewritable x = stable_never order s.known i x.0 st x.1

    not_large : ItemTooLarge order s i → ⊥
    not_large t = stable_never order s.known i t.0.equation st t.2

    pub kept_ends : (o : Outcome) → OutcomeFits s i o → (v : Verdict) → IsTrue false ↔ ItemEnds order s v i
    kept_ends o h Refuted = (λ e. false≢true e, λ x. absurd x)
    kept_ends o h Saturated = (λ e. false≢true e, λ x. absurd x)
    kept_ends o h Spent = (λ e. absurd (false≢true e), λ x. absurd (not_rewritable x))
    kept_ends o h (Limit Bounds) = (λ e. absurd (false≢true e), λ x. absurd (not_large x))
    kept_ends o h (Limit Names) = (λ e. absurd (false≢true e), λ x. absurd (outcome_once order s i o x h))

  pub nameless_ends : LacksName order s.known s.next_seq i → (v : Verdict) → IsTrue (is_names v) ↔ ItemEnds order s v i
  nameless_ends l Refuted = (λ e. false≢true e, λ x. absurd x)
  nameless_ends l Saturated = (λ e. false≢true e, λ x. absurd x)
  nameless_ends l Spent = (λ e. absurd (false≢true e), λ x. absurd (not_rewritable l.stable x))
  nameless_ends l (Limit Bounds) = (λ e. absurd (false≢true e), λ x. absurd (not_large l.stable x))
  nameless_ends l (Limit Names) = (λ e. l, λ x. refl)

module _ (order : Order) (d : Decisions order) (s : Local) (i : Item) where
  -- the state's own tasks say nothing of an item
  pub prospect_ends : (u : Local) (same : u ≡ record s { owed = u.owed }) (pr : Prospect) → IsProspect order u i pr → (v : Verdict) → IsTrue (ends_by pr v) ↔ ItemEnds order s v i
  prospect_ends u same pr h = by pr (subst (λ (t : Local). IsProspect order t i pr) same h)
    where
      by : (x : Prospect) → IsProspect order (record s { owed = u.owed }) i x → (v : Verdict) → IsTrue (ends_by x v) ↔ ItemEnds order s v i
      by (prospect.Rewritten name r) g = rewritten_ends order s i d name r g
      by prospect.TooLarge g = large_ends order s i g
      by (prospect.Kept o) g = kept_ends order s i g.0 o (outcome_owed s u.owed i o g.1)
      by prospect.Nameless g = nameless_ends order s i g

-- ---- tasks

some_once : {A : Type 0} (o : Option A) (x y : A) → o ≡ Some x → o ≡ Some y → x ≡ y
some_once {A} o x y h g = (let e : Some x ≡ Some y = sym h ∙ g in cc)

concludes_once : (order : Order) → Premises order → (R : Registry) (t : Task) (f g : List Conclusion) → Concludes order R t f → Concludes order R t g → f ≡ g
concludes_once order q R (Solo a) f g x y =
    let z = some_once (R a) x.0 y.0 x.1 y.1 in
    q.solo_once a x.0.clause f g x.2 (subst (λ (r : Record). SoloConcludes order a r.clause g) (sym z) y.2)
concludes_once order q R (Pair a b) f g x y =
    let z = some_once (R a) x.0 y.0 x.2 y.2 in
    let u = some_once (R b) x.1 y.1 x.3 y.3 in
    q.pair_once a b x.0.clause x.1.clause f g x.4 (subst (λ (r : Record). PairConcludes order a r.clause b x.1.clause g) (sym z) (subst (λ (r : Record). PairConcludes order a y.0.clause b r.clause g) (sym u) y.4))

pub task_ends : (order : Order) → Premises order → Decisions order → (s : Local) (t : Task) → IsTaskHere s.known t → (c : Concluded) → IsConcluded order (registry_of s) t c → IsTrue (is_outside c) ↔ TaskTooLarge order s t
task_ends order q d s t here (concluded.Found found) h =
    (λ e. absurd (false≢true e), λ x. absurd (x.2 (subst (λ (f : List Conclusion). Each IsConclusionWithin f) (concludes_once order q (registry_of s) t found x.0 h.0 x.1) h.1)))
task_ends order q d s t here concluded.TooLarge h = (λ e. (let f = conclusions_there order d s t here in (f.0, f.1, h f.0 f.1)), λ x. refl)

-- ---- at a limit

head_somewhere : (ts : List Task) → (ts ≡ [] → ⊥) → Somewhere (λ (t : Task). Unit {0}) ts
head_somewhere [] h = absurd (h refl)
head_somewhere (t ∷ ts) h = (0, t, refl, tt)

module _ (order : Order) (s : Local) where
  pub ends_of : (v : Verdict) → EndFits order s v → Ends order s v
  ends_of Refuted h = absurd h
  ends_of Saturated h = absurd h
  ends_of Spent h = (h.0, go h.1)
    where
      go : WouldWork order s → Somewhere (ItemEnds order s Spent) s.pending ⊎ Somewhere (TaskEnds order s Spent) s.owed
      go (inl some) = inr (head_somewhere s.owed some)
      go (inr w) = inl w
  ends_of (Limit Bounds) h = (h.0, go h.1)
    where
      go : TooLarge order s → Somewhere (ItemEnds order s (Limit Bounds)) s.pending ⊎ Somewhere (TaskEnds order s (Limit Bounds)) s.owed
      go (inl w) = inl (w.0, w.1.item, w.2, (w.1, refl, w.3, w.4, w.5))
      go (inr w) = inr (w.1, w.0, w.3, (w.2, w.4, w.5))
  ends_of (Limit Names) h =
      (h.0, inl (h.1.0, h.1.1, h.1.2, record { stable = record { free = h.1.3; irreducible = h.1.4 }; full = h.0; no_tautology = h.1.5; unsubsumed = h.1.6; some_literal = h.1.7 }))

  pub fits_of : (v : Verdict) → Ends order s v → EndFits order s v
  fits_of Refuted h = absurd h.0
  fits_of Saturated h = absurd h.0
  fits_of Spent h = (h.0, go h.1)
    where
      go : Somewhere (ItemEnds order s Spent) s.pending ⊎ Somewhere (TaskEnds order s Spent) s.owed → WouldWork order s
      go (inl w) = inr w
      go (inr w) = inl (λ e. (let g : slice_get [] w.0 ≡ Some w.1 = ap (λ (ts : List Task). slice_get ts w.0) (sym e) ∙ w.2 in cc))
  fits_of (Limit Bounds) h = (h.0, go h.1)
    where
      go : Somewhere (ItemEnds order s (Limit Bounds)) s.pending ⊎ Somewhere (TaskEnds order s (Limit Bounds)) s.owed → TooLarge order s
      go (inl w) =
          let x = w.3 in
          inl (
            w.0,
            x.0,
            w.2 ∙ ap (λ (i : Item). Some i) (sym x.1),
            subst (λ (i : Item). IsRewriter order s.known i.forced i.clause x.0.equation) (sym x.1) x.2,
            subst (λ (i : Item). ReductAt order x.0.equation.entry.clause i.clause x.0.side x.0.literal x.0.path x.0.subst x.0.reduct) (sym x.1) x.3,
            x.4,
          )
      go (inr w) = inr (w.1, w.0, w.3.0, w.2, w.3.1, w.3.2)
  fits_of (Limit Names) h = (h.0, go h.1)
    where
      go : Somewhere (ItemEnds order s (Limit Names)) s.pending ⊎ Somewhere (TaskEnds order s (Limit Names)) s.owed
          → (place : ℕ) × (i : Item) × (slice_get s.pending place ≡ Some i) × (i.forced ≡ None) × Each (λ e. ¬ IsReducer order i.clause e) s.known × (¬ IsTautology i.clause) × Each (λ e. ¬ IsSubsumer i.clause e) s.known × (is_empty i.clause ≡ false)
      go (inl w) = (w.0, w.1, w.2, w.3.stable.free, w.3.stable.irreducible, w.3.no_tautology, w.3.unsubsumed, w.3.some_literal)
      go (inr w) = absurd w.3
