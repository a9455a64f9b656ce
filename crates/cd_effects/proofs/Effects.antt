-- A legal event leaves one state and sends the same letters.
use Rattle.std.proofs.Common.{◌≡◌, ℕ, zero, suc, ◌+◌, ◌≤◌, Bool, true, not, List, [], ◌∷◌, ◌++◌, arith, refl, ap, sym, ◌∙◌, subst, inl, inr, length}
use Rattle.std.specs.Prelude.{slice_get, slice_set, remove, Option, Some, None}
use Rattle.cd_steps.specs.declared.Step.TheVariants as step
use Rattle.cd_names.specs.declared.How.TheVariants as how
use Rattle.cd_ledger.specs.declared.items.Origin.TheVariants as origin
use Rattle.cd_ledger.specs.declared.letters.Body.TheVariants as body
use Rattle.cd_clause.specs.declared.Clause.{Clause}
use Rattle.cd_term.specs.declared.Term.{Term}
use Rattle.cd_names.specs.declared.names.Name.{Name}
use Rattle.cd_steps.specs.declared.Step.{Step}
use Rattle.cd_names.specs.declared.How.{How}
use Rattle.cd_contract.specs.declared.held.Hit.{Hit}
use Rattle.cd_tasks.specs.declared.Task.{Task}
use Rattle.cd_tasks.specs.declared.Task.TheVariants.{Pair, Solo}
use Rattle.cd_ledger.specs.declared.items.Origin.{Origin}
use Rattle.cd_infer.specs.declared.Conclusion.{Conclusion}
use Rattle.cd_ledger.specs.declared.items.Item.{Item}
use Rattle.cd_ledger.specs.declared.records.Record.{Record}
use Rattle.cd_ledger.specs.declared.records.Known.{Known}
use Rattle.cd_ledger.specs.declared.items.Outcome.{Outcome}
use Rattle.cd_ledger.specs.declared.items.Outcome.TheVariants.{Named, Subsumed, Trivial}
use Rattle.cd_ledger.specs.declared.letters.Body.{Body}
use Rattle.cd_ledger.specs.declared.letters.Letter.{Letter}
use Rattle.cd_ledger.specs.declared.events.Act.{Act}
use Rattle.cd_ledger.specs.declared.events.Act.TheVariants.{Admit, Declare, End, Keep, Pass, Receive, Reject, Rewrite, Work}
use Rattle.cd_ledger.specs.declared.events.Event.{Event}
use Rattle.cd_ledger.specs.declared.local.Local.{Local}
use Rattle.cd_list.specs.Lists.{tally}
use Rattle.std.specs.List.{AllByRecursion as Each}
use Rattle.cd_machine.specs.Lists.{IsFirst}
use Rattle.cd_read.specs.declared.problem.Problem.{Problem}
use Rattle.cd_ledger.specs.Records.{Registry, is_of, look}
use Rattle.cd_machine.specs.Rules.{IsTidied, PairConcludes, ReductAt, SoloConcludes}
use Rattle.cd_machine.specs.Arrivals.{new_record, next_name, refuted_by}
use Rattle.cd_machine.specs.Acts.{AreTaskItems, Concludes, IsItemOf, IsYield, Rewritten, Yield, admitted_body, body_letters, broadcast, keep_letters, kept, rewritten, taken, unshelved, worked}
use Rattle.cd_machine.specs.Tokens.{passed_by, token_letters}
use Rattle.cd_machine.specs.Events.{Admitting, Found, Keeping, acted, is_token, receives, sent, sent_by}
use Rattle.cd_machine.specs.Right.{IsTidyStep, registry_of}
use Rattle.cd_machine.specs.Hits.{IsBeater, IsForward, IsReducer, IsRewriter, IsSubsumer, ReducesLater}
use Rattle.cd_machine.specs.Fits.{AdmitFits, ArrivalHits, BodyHits, Fits, KeepFits, KeepHits, OutcomeFits, RewriteFits}
use Rattle.cd_machine.specs.World.{at}
use Rattle.cd_laws.specs.Premises.{Premises}
use Rattle.cd_laws.specs.Sound.{TrueKnown, owed_times, task_eq}
use Rattle.cd_machine.specs.Spread.{record_of}
use Rattle.cd_laws.proofs.Lists.{Each_first, Each_weaker, find_is}
use Rattle.cd_laws.proofs.Steps.{name_eq_refl}
use Rattle.cd_laws.proofs.Descent.{tally_at}
use Rattle.cd_laws.proofs.Whole.{run_sound}
use Rattle.cd_laws.proofs.Start.{start_sound}
use Rattle.cd_effects.specs.Effects.{EffectsOnce, Single, SoundEffectsOnce}
use Rattle.cd_effects.proofs.Hits.{Agree, arrived_agree, hits_agree, notices_agree}
use Rattle.cd_kbo.specs.declared.order.Order.{Order}

-- ---- what is found in a list is found once
some_once : {A : Type 0} (o : Option A) (x y : A) → o ≡ Some x → o ≡ Some y → x ≡ y
some_once o x y h g = let z : Some x ≡ Some y = sym h ∙ g in cc

split_once : {A : Type 0} (P : A → Type 0) (f g : List A) (x y : A) (b c : List A) → f ++ x ∷ b ≡ g ++ y ∷ c → P x → Each (λ z. ¬ P z) f → P y → Each (λ z. ¬ P z) g → x ≡ y
split_once P [] [] x y b c e px nf py ng = cc
split_once P [] (z ∷ g) x y b c e px nf py ng = absurd (let u : x ≡ z = cc in ng.0 (subst P u px))
split_once P (z ∷ f) [] x y b c e px nf py ng = absurd (let u : z ≡ y = cc in nf.0 (subst P (sym u) py))
split_once P (z ∷ f) (u ∷ g) x y b c e px nf py ng = split_once P f g x y b c (let t : f ++ x ∷ b ≡ g ++ y ∷ c = cc in t) px nf.1 py ng.1

first_once : {A : Type 0} (P : A → Type 0) (xs : List A) (x y : A) → IsFirst P xs x → IsFirst P xs y → x ≡ y
first_once P xs x y f g = split_once P f.front g.front x y f.back g.back (sym f.split ∙ g.split) f.is f.first g.is g.first

not_first : {A : Type 0} (P : A → Type 0) (xs : List A) (x : A) → IsFirst P xs x → Each (λ z. ¬ P z) xs → ⊥
not_first P xs x f n = let r = Each_first P (λ z. ¬ P z) xs x f n in r.1 r.0

rewriter_once : (order : Order) → (es : List Known) (o : Option Name) (c : Clause) (e f : Known) → IsRewriter order es o c e → IsRewriter order es o c f → e ≡ f
rewriter_once order es (Some n) c e f x y = some_once (look es n) e f x y
rewriter_once order es None c e f x y = first_once (IsReducer order c) es e f x y

abbrev IsTidyEntry : Known → Type 0
IsTidyEntry e = IsTidied e.entry.clause e.entry.clause

rewriter_in : (order : Order) → (P : Known → Type 0) (es : List Known) (o : Option Name) (c : Clause) (e : Known) → IsRewriter order es o c e → Each P es → P e
rewriter_in order P es (Some n) c e x h = (find_is P (is_of n) es e x h).0
rewriter_in order P es None c e x h = (Each_first (IsReducer order c) P es e x h).1

-- one element that passes stands at one place
place_once : {A : Type 0} (t : A → Bool) (xs : List A) (j k : ℕ) (x y : A) → tally t xs ≤ 1 → slice_get xs j ≡ Some x → slice_get xs k ≡ Some y → t x ≡ true → t y ≡ true → j ≡ k
place_once t [] j k x y o h g p q = cc
place_once t (z ∷ xs) zero zero x y o h g p q = refl
place_once t (z ∷ xs) zero (suc k) x y o h g p q =
    let e : t z ≡ true = (let s : z ≡ x = cc in ap t s ∙ p) in
    let m : 1 + tally t xs ≤ 1 = rw e at o in
    absurd (omega (arith, m, tally_at t xs k y g q))
place_once t (z ∷ xs) (suc j) zero x y o h g p q =
    let e : t z ≡ true = (let s : z ≡ y = cc in ap t s ∙ q) in
    let m : 1 + tally t xs ≤ 1 = rw e at o in
    absurd (omega (arith, m, tally_at t xs j x h p))
place_once t (z ∷ xs) (suc j) (suc k) x y o h g p q = ap suc (place_once t xs j k x y (omega (arith, o)) h g p q)

-- ---- steps and items
module _ (order : Order) (s : Single order) where
  tidy_once : (t : Step) (c : Clause) (ss us : List Step) (d x : Clause) → IsTidyStep t c ss d → IsTidyStep t c us x → (ss ≡ us) × (d ≡ x)
  tidy_once t c ss us d x (inl a) (inl b) = (a.1 ∙ sym b.1, a.2 ∙ sym b.2)
  tidy_once t c ss us d x (inl a) (inr b) = absurd (b.0 a.0)
  tidy_once t c ss us d x (inr a) (inl b) = absurd (a.0 b.0)
  tidy_once t c ss us d x (inr a) (inr b) = (a.2 ∙ sym b.2, s.tidied c d x a.1 b.1)

  abbrev item_as : Origin → Option Name → List Step → Clause → Item
  item_as o f ss c = record { origin = o; forced = f; steps = ss; clause = c }

  pub item_once : (o : Origin) (t : Step) (c : Clause) (i j : Item) → IsItemOf o t c i → IsItemOf o t c j → i ≡ j
  item_once o t c i j a b =
      let z = tidy_once t c i.steps j.steps i.clause j.clause a.2 b.2 in
      ap (λ u. item_as u i.forced i.steps i.clause) (a.0 ∙ sym b.0)
      ∙ (ap (λ u. item_as j.origin u i.steps i.clause) (a.1 ∙ sym b.1)
      ∙ (ap (λ u. item_as j.origin j.forced u i.clause) z.0
      ∙ ap (λ u. item_as j.origin j.forced j.steps u) z.1))

  items_once : (t : Task) (k : ℕ) (cs : List Conclusion) (is js : List Item) → AreTaskItems t k cs is → AreTaskItems t k cs js → is ≡ js
  items_once t k [] is js a b = a ∙ sym b
  items_once t k (c ∷ cs) is js a b =
      a.4 ∙ (ap (λ i. i ∷ a.1) (item_once (origin.Task t k) c.step c.clause a.0 b.0 a.2 b.2)
      ∙ (ap (λ xs. b.0 ∷ xs) (items_once t (k + 1) cs a.1 b.1 a.3 b.3) ∙ sym b.4))

  -- ---- Rewrite
  abbrev step_as : Name → ℕ → ℕ → List ℕ → List Term → Step
  step_as n side j path t = step.Rewrite n side j path t

  rewrite_once : (l : Local) → Each IsTidyEntry l.known → (k : ℕ) (f g : Rewritten) → RewriteFits order l k f → RewriteFits order l k g → rewritten l k f ≡ rewritten l k g
  rewrite_once l tidies k f g x y =
      ap (λ z. rewritten_as z f.steps f.clause) item ∙ (ap (λ z. rewritten_as g.item z f.clause) tidy.0 ∙ ap (λ z. rewritten_as g.item g.steps z) tidy.1)
    where
      rewritten_as : Item → List Step → Clause → Local
      rewritten_as i ss c = record l { pending = slice_set l.pending k (record { origin = i.origin; forced = None; steps = i.steps ++ ss; clause = c }); units = l.units + 1 }

      item : f.item ≡ g.item
      item = some_once (slice_get l.pending k) f.item g.item x.there y.there

      equation : f.equation ≡ g.equation
      equation = rewriter_once order l.known g.item.forced g.item.clause f.equation g.equation
          (subst (λ (i : Item). (IsRewriter order) l.known i.forced i.clause f.equation) item x.rewriter) y.rewriter

      one : (f.side ≡ g.side) × (f.literal ≡ g.literal) × (f.path ≡ g.path) × (f.subst ≡ g.subst) × (f.reduct ≡ g.reduct)
      one = s.reduct g.equation.entry.clause g.item.clause f.side f.literal g.side g.literal f.path g.path f.subst g.subst f.reduct g.reduct
          (rewriter_in order IsTidyEntry l.known g.item.forced g.item.clause g.equation y.rewriter tidies)
          (subst (λ (e : Known). (ReductAt order) e.entry.clause g.item.clause f.side f.literal f.path f.subst f.reduct) equation
          (subst (λ (i : Item). (ReductAt order) f.equation.entry.clause i.clause f.side f.literal f.path f.subst f.reduct) item x.reduces)) y.reduces

      steps : step_as f.equation.entry.name f.side f.literal f.path f.subst ≡ step_as g.equation.entry.name g.side g.literal g.path g.subst
      steps = ap (λ (e : Known). step_as e.entry.name f.side f.literal f.path f.subst) equation
          ∙ (ap (λ z. step_as g.equation.entry.name z f.literal f.path f.subst) (one).0
          ∙ (ap (λ z. step_as g.equation.entry.name g.side z f.path f.subst) (one).1
          ∙ (ap (λ z. step_as g.equation.entry.name g.side g.literal z f.subst) (one).2
          ∙ ap (λ z. step_as g.equation.entry.name g.side g.literal g.path z) (one).3)))

      tidy : (f.steps ≡ g.steps) × (f.clause ≡ g.clause)
      tidy = tidy_once (step_as g.equation.entry.name g.side g.literal g.path g.subst) g.reduct f.steps g.steps f.clause g.clause
          (subst (λ (c : Clause). IsTidyStep (step_as g.equation.entry.name g.side g.literal g.path g.subst) c f.steps f.clause) (one).4
          (subst (λ (t : Step). IsTidyStep t f.reduct f.steps f.clause) steps x.tidy)) y.tidy

-- ---- Keep
outcome_once : (s : Local) (i : Item) (o u : Outcome) → OutcomeFits s i o → OutcomeFits s i u → o ≡ u
outcome_once s i (Named n) (Named m) x y = ap Named (x.2 ∙ sym y.2)
outcome_once s i (Named n) Trivial x y = absurd (x.0 y)
outcome_once s i (Named n) (Subsumed m) x y = absurd (not_first (IsSubsumer i.clause) s.known y.1.0 y.1.1 x.1)
outcome_once s i Trivial (Named m) x y = absurd (y.0 x)
outcome_once s i Trivial Trivial x y = refl
outcome_once s i Trivial (Subsumed m) x y = absurd (y.0 x)
outcome_once s i (Subsumed n) (Named m) x y = absurd (not_first (IsSubsumer i.clause) s.known x.1.0 x.1.1 y.1)
outcome_once s i (Subsumed n) Trivial x y = absurd (x.0 y)
outcome_once s i (Subsumed n) (Subsumed m) x y =
    ap Subsumed (x.1.2 ∙ (ap (λ (e : Known). e.entry.name) (first_once (IsSubsumer i.clause) s.known x.1.0 y.1.0 x.1.1 y.1.1) ∙ sym y.1.2))

abbrev Kept : Local → ℕ → ℕ → Item → Outcome → Item → Outcome → (Known → Option How) → (Known → Option How) → Type 0
Kept s time k i o j u hit hot = (kept s k i o hit ≡ kept s k j u hot) × (keep_letters s time k i o hit ≡ keep_letters s time k j u hot)

kept_hits : (order : Order) → (s : Local) (time k : ℕ) (i : Item) (o : Outcome) (hit hot : Known → Option How) → KeepHits order s k i o hit → KeepHits order s k i o hot → Kept s time k i o i o hit hot
kept_hits order s time k i (Named n) hit hot x y = (
  ap named_as (arrived_agree hit hot (taken s k i (Named n)) (new_record s i) agree),
  ap (λ ls. broadcast s.me time (new_record s i) s.peers ++ ls) (notices_agree hit hot s.me time (next_name s) (taken s k i (Named n)).known agree),
)
  where
    agree : Agree hit hot (taken s k i (Named n)).known
    agree = hits_agree order (new_record s i) (taken s k i (Named n)).known hit hot x y

    named_as : Local → Local
    named_as l = record l { next_seq = s.next_seq + 1; verdict = refuted_by i.clause s.verdict }
kept_hits order s time k i Trivial hit hot x y = (refl, refl)
kept_hits order s time k i (Subsumed d) hit hot x y = (refl, refl)

keep_once : (order : Order) → (s : Local) (time k : ℕ) (f g : Keeping) → KeepFits order s k f → KeepFits order s k g → Kept s time k f.item f.outcome g.item g.outcome f.hit g.hit
keep_once order s time k f g x y =
    subst (λ (i : Item). Kept s time k i f.outcome g.item g.outcome f.hit g.hit) (sym item)
    (subst (λ (o : Outcome). Kept s time k g.item o g.item g.outcome f.hit g.hit) (sym outcome) (kept_hits order s time k g.item g.outcome f.hit g.hit hits y.hits))
  where
    item : f.item ≡ g.item
    item = some_once (slice_get s.pending k) f.item g.item x.there y.there

    outcome : f.outcome ≡ g.outcome
    outcome = outcome_once s g.item f.outcome g.outcome (subst (λ (i : Item). OutcomeFits s i f.outcome) item x.outcome) y.outcome

    hits : KeepHits order s k g.item g.outcome f.hit
    hits = subst (λ (o : Outcome). (KeepHits order) s k g.item o f.hit) outcome (subst (λ (i : Item). (KeepHits order) s k i f.outcome f.hit) item x.hits)

-- ---- Admit
abbrev hit_as : Name → How → Hit
hit_as n h = record { by = n; how = h }

no_beater : (order : Order) → (h : How) (r : Record) (es : List Known) (e : Known) → IsFirst (IsBeater order h r) es e → Each (λ z. (¬ IsBeater order how.Subsumes r z) × (¬ IsBeater order how.Reduces r z)) es → ⊥
no_beater order how.Subsumes r es e f n = let z = Each_first (IsBeater order how.Subsumes r) (λ z. (¬ IsBeater order how.Subsumes r z) × (¬ IsBeater order how.Reduces r z)) es e f n in z.1.0 z.0
no_beater order how.Reduces r es e f n = let z = Each_first (IsBeater order how.Reduces r) (λ z. (¬ IsBeater order how.Subsumes r z) × (¬ IsBeater order how.Reduces r z)) es e f n in z.1.1 z.0

how_once : (order : Order) → (r : Record) (es : List Known) (h k : How) (e f : Known) → IsFirst (IsBeater order h r) es e → IsFirst (IsBeater order k r) es f → ReducesLater order h r es → ReducesLater order k r es → h ≡ k
how_once order r es how.Subsumes how.Subsumes e f x y l m = refl
how_once order r es how.Subsumes how.Reduces e f x y l m = absurd (not_first (IsBeater order how.Subsumes r) es e x m)
how_once order r es how.Reduces how.Subsumes e f x y l m = absurd (not_first (IsBeater order how.Subsumes r) es f y l)
how_once order r es how.Reduces how.Reduces e f x y l m = refl

forward_once : (order : Order) → (r : Record) (es : List Known) (o u : Option Hit) → IsForward order r es o → IsForward order r es u → o ≡ u
forward_once order r es None None x y = refl
forward_once order r es None (Some k) x y = absurd (no_beater order k.how r es y.0 y.1 x)
forward_once order r es (Some h) None x y = absurd (no_beater order h.how r es x.0 x.1 y)
forward_once order r es (Some h) (Some k) x y =
    ap (λ z. Some (hit_as z h.how)) (x.2 ∙ (ap (λ (e : Known). e.entry.name) entry ∙ sym y.2)) ∙ ap (λ z. Some (hit_as k.by z)) same
  where
    same : h.how ≡ k.how
    same = how_once order r es h.how k.how x.0 y.0 x.1 y.1 x.3 y.3

    entry : x.0 ≡ y.0
    entry = first_once (IsBeater order k.how r) es x.0 y.0 (subst (λ (w : How). IsFirst (IsBeater order w r) es x.0) same x.1) y.1

abbrev Admitted : Local → ℕ → ℕ → Body → Option Hit → Body → Option Hit → (Known → Option How) → (Known → Option How) → Type 0
Admitted s time k b o c u hit hot = (admitted_body (unshelved s k) b o hit ≡ admitted_body (unshelved s k) c u hot) × (body_letters s time b o hit ≡ body_letters s time c u hot)

record_once : (order : Order) → (s : Local) (time k : ℕ) (r : Record) (o : Option Hit) (hit hot : Known → Option How) → ArrivalHits order o r s.known hit → ArrivalHits order o r s.known hot
    → Admitted s time k (body.Kept r) o (body.Kept r) o hit hot
record_once order s time k r None hit hot x y = (
  ap (λ (l : Local). refuted_as l) (arrived_agree hit hot (unshelved s k) r agree),
  notices_agree hit hot s.me time r.name s.known agree,
)
  where
    agree : Agree hit hot s.known
    agree = hits_agree order r s.known hit hot x y

    refuted_as : Local → Local
    refuted_as l = record l { verdict = refuted_by r.clause s.verdict }
record_once order s time k r (Some h) hit hot x y = (refl, refl)

body_once : (order : Order) → (s : Local) (time k : ℕ) (b : Body) (o u : Option Hit) (hit hot : Known → Option How) → BodyHits order s b o hit → BodyHits order s b u hot → Admitted s time k b o b u hit hot
body_once order s time k (body.Kept r) o u hit hot x y =
    let same = forward_once order r s.known o u x.0 y.0 in
    subst (λ (z : Option Hit). Admitted s time k (body.Kept r) z (body.Kept r) u hit hot) (sym same)
    (record_once order s time k r u hit hot (subst (λ (z : Option Hit). (ArrivalHits order) z r s.known hit) same x.1) y.1)
body_once order s time k (body.Notice of by h) o u hit hot x y = (refl, refl)
body_once order s time k (body.Token t) o u hit hot x y = (refl, refl)

admit_once : (order : Order) → (p : Problem) (s : Local) (time k : ℕ) (f g : Admitting) → AdmitFits order p s k f → AdmitFits order p s k g → Admitted s time k f.letter.body f.forward g.letter.body g.forward f.hit g.hit
admit_once order p s time k f g x y =
    subst (λ (l : Letter). Admitted s time k l.body f.forward g.letter.body g.forward f.hit g.hit) (sym letter)
    (body_once order s time k g.letter.body f.forward g.forward f.hit g.hit (subst (λ (l : Letter). (BodyHits order) s l.body f.forward f.hit) letter x.hits) y.hits)
  where
    letter : f.letter ≡ g.letter
    letter = some_once (slice_get s.waiting k) f.letter g.letter x.there y.there

-- ---- Work
found_once : (order : Order) → (q : Premises order) (R : Registry) (t : Task) (f g : List Conclusion) → Concludes order R t f → Concludes order R t g → f ≡ g
found_once order q R (Solo a) f g x y =
    let z = some_once (R a) x.0 y.0 x.1 y.1 in
    q.solo_once a x.0.clause f g x.2 (subst (λ (r : Record). (SoloConcludes order) a r.clause g) (sym z) y.2)
found_once order q R (Pair a b) f g x y =
    let z = some_once (R a) x.0 y.0 x.2 y.2 in
    let u = some_once (R b) x.1 y.1 x.3 y.3 in
    q.pair_once a b x.0.clause x.1.clause f g x.4 (subst (λ (r : Record). (PairConcludes order) a r.clause b x.1.clause g) (sym z) (subst (λ (r : Record). (PairConcludes order) a y.0.clause b r.clause g) (sym u) y.4))

task_refl : (t : Task) → task_eq t t ≡ true
task_refl (Solo a) = name_eq_refl a
task_refl (Pair a c) = rw (name_eq_refl a) (name_eq_refl c)

abbrev yield_as : List Task → List Conclusion → List Item → Yield
yield_as ts cs is = record { others = ts; found = cs; items = is }

yield_once : (order : Order) → (q : Premises order) (one : Single order) (s : Local) (t : Task) → owed_times t s ≤ 1 → (f g : Yield) → IsYield order s t f → IsYield order s t g → f ≡ g
yield_once order q one s t few f g x y =
    ap (λ z. yield_as z f.found f.items) others ∙ (ap (λ z. yield_as g.others z f.items) found ∙ ap (λ z. yield_as g.others g.found z) items)
  where
    others : f.others ≡ g.others
    others = x.takes.rest ∙ (ap (remove s.owed) (place_once (task_eq t) s.owed x.takes.place y.takes.place t t few x.takes.there y.takes.there (task_refl t) (task_refl t)) ∙ sym y.takes.rest)

    found : f.found ≡ g.found
    found = found_once order q (registry_of s) t f.found g.found x.concludes y.concludes

    items : f.items ≡ g.items
    items = items_once order one t 0 g.found f.items g.items (subst (λ (cs : List Conclusion). AreTaskItems t 0 cs f.items) found x.items) y.items

-- ---- all acts
module _ (order : Order) (q : Premises order) (one : Single order) (p : Problem) (s : Local) (few : (t : Task) → owed_times t s ≤ 1) (tidies : Each IsTidyEntry s.known) (time : ℕ) where
  acts_once : (a : Act) (f g : Found a) → Fits order p s a f → Fits order p s a g → (acted s a f ≡ acted s a g) × (sent_by s time a f ≡ sent_by s time a g)
  acts_once (Rewrite k) f g x y = (rewrite_once order one s tidies k f g x y, refl)
  acts_once (Keep k) f g x y = keep_once order s time k f g x y
  acts_once (Receive l) f g x y = (refl, refl)
  acts_once (Admit k) f g x y = admit_once order p s time k f g x y
  acts_once (Reject k) f g x y = (refl, refl)
  acts_once (Work t) f g x y = (ap (worked s t) (yield_once order q one s t (few t) f g x.1 y.1), refl)
  acts_once Pass f g x y = let same = some_once s.token f g x.1 y.1 in (ap (passed_by s) same, ap (token_letters s time) same)
  acts_once Declare f g x y = (refl, refl)
  acts_once (End v) f g x y = (refl, refl)

-- the state after an event, over what was done and what was sent
abbrev after_as : Local → Event → Local → List Letter → Local
after_as s e a ls = record a {
  clock = e.time;
  journal = s.journal ++ e ∷ [];
  count = record { sent = s.count.sent + tally (λ l. not (is_token l)) ls; received = s.count.received + receives e.act };
}

pub sound_effects : (order : Order) → SoundEffectsOnce order
sound_effects order q one p policy w i e f g l x y =
    let s = at w e.peer in
    let both = acts_once order q one p s few tidies e.time e.act f g x.fits y.fits in
    (ap (λ a. after_as s e a (sent s e f)) both.0 ∙ ap (λ ls. after_as s e (acted s e.act g) ls) both.1, both.1)
  where
    few : (t : Task) → owed_times t (at w e.peer) ≤ 1
    few (Solo a) = let o = (i.solos e.peer l a).once in omega (arith, o)
    few (Pair a b) = let o = (i.pairs e.peer l a b).once in omega (arith, o)

    tidies : Each IsTidyEntry (at w e.peer).known
    tidies = Each_weaker (TrueKnown order p policy (length w.locals) (record_of w) (at w e.peer).me) IsTidyEntry (λ k h. h.right.tidy) (at w e.peer).known (i.truth.locals e.peer l).known

pub effects : (order : Order) → EffectsOnce order
effects order q one p policy limits start w es s r = sound_effects order q one p policy w (run_sound order q p policy es start w r (start_sound order q p policy limits s.fit start s))
