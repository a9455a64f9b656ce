-- The carried clauses have exactly the models of the input.
use Rattle.std.proofs.Common.{◌≡◌, ℕ, zero, suc, ◌+◌, ◌%◌, ◌<◌, ◌≤◌, Bool, true, false, ◌&&◌, cond, eqb, ltb, List, [], ◌∷◌, ◌++◌, map, length, get_or, arith, refl, ap, sym, ◌∙◌, subst, inl, inr, ◌⊎◌}
use Rattle.std.specs.Prelude.{slice_get, Option, Some, None}
use Rattle.std.specs.List.{flat_map}
use Rattle.std.proofs.lemmas.Bool.{eqb-true, cases_lt}
use Rattle.std.proofs.lemmas.Bool.Decides.{nat_tests}
use Rattle.cd_steps.specs.declared.Step.TheVariants as step
use Rattle.cd_ledger.specs.declared.items.Origin.TheVariants as origin
use Rattle.cd_ledger.specs.declared.letters.Body.TheVariants as body
use Rattle.cd_clause.specs.declared.Clause.{Clause}
use Rattle.cd_names.specs.declared.names.Name.{Name}
use Rattle.cd_steps.specs.declared.Step.{Step}
use Rattle.cd_names.specs.declared.How.{How}
use Rattle.cd_contract.specs.declared.held.Hit.{Hit}
use Rattle.cd_ledger.specs.declared.items.Origin.{Origin}
use Rattle.cd_ledger.specs.declared.items.Item.{Item}
use Rattle.cd_ledger.specs.declared.records.Record.{Record}
use Rattle.cd_ledger.specs.declared.records.Known.{Known}
use Rattle.cd_ledger.specs.declared.items.Outcome.{Outcome}
use Rattle.cd_ledger.specs.declared.items.Outcome.TheVariants.{Named, Subsumed, Trivial}
use Rattle.cd_ledger.specs.declared.items.Settled.{Settled}
use Rattle.cd_ledger.specs.declared.letters.Body.{Body}
use Rattle.cd_ledger.specs.declared.letters.Letter.{Letter}
use Rattle.cd_names.specs.declared.ownership.Policy.{Policy}
use Rattle.cd_ledger.specs.declared.events.Act.{Act}
use Rattle.cd_ledger.specs.declared.events.Act.TheVariants.{Admit, Declare, End, Keep, Pass, Receive, Reject, Rewrite, Work}
use Rattle.cd_ledger.specs.declared.events.Event.{Event}
use Rattle.cd_ledger.specs.declared.local.Local.{Local}
use Rattle.cd_list.specs.Lists.{tally}
use Rattle.std.specs.List.{AllByRecursion as Each}
use Rattle.std.specs.Prelude.{filter_map}
use Rattle.std.specs.List.{cons_option}
use Rattle.cd_read.specs.declared.problem.Problem.{Problem}
use Rattle.cd_ledger.specs.Records.{IsShape, Registry, begins, equations_of, is_of, recorded, used_in}
use Rattle.cd_machine.specs.Right.{IsReplayed, Lead}
use Rattle.cd_clause.specs.Truth.{Holds, Interp, IsInterp}
use Rattle.cd_names.specs.Names.{name_eq}
use Rattle.cd_steps.specs.Premises.{names_in}
use Rattle.cd_machine.specs.Arrivals.{held, new_record, next_name}
use Rattle.cd_ledger.specs.Statuses.{is_held}
use Rattle.cd_machine.specs.Contraction.{loss, named_hit, strike_one, struck}
use Rattle.cd_machine.specs.Acts.{admitted_body, kept, resolution, resolved, unshelved}
use Rattle.cd_machine.specs.Tokens.{passed}
use Rattle.cd_machine.specs.Events.{Found, acted}
use Rattle.cd_machine.specs.Hits.{IsBelow}
use Rattle.cd_machine.specs.Fits.{Fits}
use Rattle.cd_machine.specs.World.{Run, World, WorldStep, at, nobody}
use Rattle.cd_laws.specs.Premises.{Premises}
use Rattle.cd_steps.specs.Laws.{HoldsIfAny}
use Rattle.cd_machine.specs.Spread.{Genuine, body_is_kept, held_times, is_kept, is_kept_to, record_of, waiting_times}
use Rattle.cd_laws.specs.Sound.{BeginsWith, FromOrigin, IsSound, IsTrue, NameBelow, OutcomeBelow, OutcomeHolds, TrueBody, TrueItem, TrueKnown, TrueLetter, TrueSettled, origin_eq, pending_times, settled_times}
use Rattle.cd_machine.specs.Carried.{IsLive, carried, carried_by, coming_body, coming_clause, live_clause}
use Rattle.cd_laws.specs.Statements.{Covered, outcome_names}
use Rattle.cd_laws.proofs.Lists.{Each_all, Each_append, Each_at, Each_left, Each_map, Each_right, Each_weaker, and_true}
use Rattle.cd_laws.proofs.Steps.{at_other, at_same, name_eq_true, same_or_not}
use Rattle.cd_laws.proofs.Strikes.{strike_entry}
use Rattle.cd_laws.proofs.Truth.{local_registry}
use Rattle.cd_laws.proofs.Whole.{recorded_map, recorded_resolved, step_sound}
use Rattle.cd_laws.proofs.Descent.{covered, descent, entry_is, genuine_right, named_genuine, recorded_named, tally_place}
use Rattle.cd_kbo.specs.declared.order.Order.{Order}
use Rattle.cd_machine.specs.Rules.{clauses_of}

names_used : (s : Step) → begins s ≡ false → names_in s ≡ used_in s
names_used (step.Input k) h = absurd (let f : true ≡ false = h in cc)
names_used (step.Copy n) h = absurd (let f : true ≡ false = h in cc)
names_used (step.Resolve a i b j t) h = absurd (let f : true ≡ false = h in cc)
names_used (step.Factor a i j t) h = absurd (let f : true ≡ false = h in cc)
names_used (step.Refl a i t) h = absurd (let f : true ≡ false = h in cc)
names_used (step.EqFac a i s j z t) h = absurd (let f : true ≡ false = h in cc)
names_used (step.Para a i s b j path t) h = absurd (let f : true ≡ false = h in cc)
names_used (step.Rewrite a s j path t) h = refl
names_used step.Tidy h = refl

gather_at : {A B : Type 0} (P : B → Type 0) (f : A → Option B) (xs : List A) (k : ℕ) (x : A) (y : B) → slice_get xs k ≡ Some x → f x ≡ Some y → Each P (filter_map f xs) → P y
gather_at P f [] k x y h g e = cc
gather_at P f (z ∷ xs) zero x y h g e = let s : z ≡ x = cc in let t : f z ≡ Some y = ap f s ∙ g in (subst (λ (o : Option _). Each P (cons_option o (filter_map f xs))) t e).0
gather_at P f (z ∷ xs) (suc k) x y h g e = gather_at P f xs k x y h g (rest (f z) e)
  where
    rest : (o : Option _) → Each P (cons_option o (filter_map f xs)) → Each P (filter_map f xs)
    rest None r = r
    rest (Some w) r = r.1

gather_all : {A B : Type 0} (P : B → Type 0) (f : A → Option B) (xs : List A) → Each (λ x. (y : B) → f x ≡ Some y → P y) xs → Each P (filter_map f xs)
gather_all P f [] h = tt
gather_all P f (x ∷ xs) h = go (f x) h.0 (gather_all P f xs h.1)
  where
    go : (o : Option _) → ((y : _) → o ≡ Some y → P y) → Each P (filter_map f xs) → Each P (cons_option o (filter_map f xs))
    go None g r = r
    go (Some y) g r = (g y refl, r)

pub flat_at : {B : Type 0} (P : B → Type 0) (f : Local → List B) (ls : List Local) (k : ℕ) → k < length ls → Each P (flat_map f ls) → Each P (f (get_or ls k nobody))
flat_at P f [] k l h = absurd (omega arith)
flat_at P f (x ∷ ls) zero l h = Each_left P (f x) (flat_map f ls) h
flat_at P f (x ∷ ls) (suc k) l h = flat_at P f ls k (omega (arith, l)) (Each_right P (f x) (flat_map f ls) h)

pub flat_all : {B : Type 0} (P : B → Type 0) (f : Local → List B) (ls : List Local) → ((k : ℕ) → k < length ls → Each P (f (get_or ls k nobody))) → Each P (flat_map f ls)
flat_all P f [] h = tt
flat_all P f (x ∷ ls) h = Each_append P (f x) (flat_map f ls) (h 0 (omega arith)) (flat_all P f ls (λ k l. h (suc k) (omega (arith, l))))

each_from : {A : Type 0} (P : A → Type 0) (xs : List A) → ((k : ℕ) (x : A) → slice_get xs k ≡ Some x → P x) → Each P xs
each_from P [] h = tt
each_from P (x ∷ xs) h = (h 0 x refl, each_from P xs (λ k y g. h (suc k) y g))

each_index : {A : Type 0} (P : A → Type 0) (xs : List A) → Each P xs → (k : ℕ) (x : A) → slice_get xs k ≡ Some x → P x
each_index P xs h k x g = Each_at P xs k x g h

pub get_below : {A : Type 0} (xs : List A) (k : ℕ) (x : A) → slice_get xs k ≡ Some x → k < length xs
get_below [] k x h = cc
get_below (y ∷ xs) zero x h = omega arith
get_below (y ∷ xs) (suc k) x h = let g = get_below xs k x h in omega (arith, g)

module _ (order : Order) (q : Premises order) (interp : Interp) (ii : IsInterp interp) (p : Problem) (R : Registry) where
  -- a name's record holds
  abbrev pub NameHolds : Name → Type 0
  NameHolds n = (r : Record) → R n ≡ Some r → Holds interp r.clause

  -- steps that go on, backwards
  lead_back : (d c : Clause) (ss : List Step) → Each (λ s. begins s ≡ false) ss → Each NameHolds (flat_map used_in ss) → Lead p R (Some d) ss c → Holds interp c → Holds interp d
  lead_back d c [] go_on names lead h = let e : d ≡ c = cc in subst (Holds interp) (sym e) h
  lead_back d c (s ∷ ss) go_on names lead h =
      q.replay_back interp ii p R d s lead.0 go_on.0 (subst (λ (ns : List Name). Each NameHolds ns) (sym (names_used s go_on.0)) (Each_left NameHolds (used_in s) (flat_map used_in ss) names)) lead.1
      (lead_back lead.0 c ss go_on.1 (Each_right NameHolds (used_in s) (flat_map used_in ss) names) lead.2 h)

  -- what the first step of a record gives
  first_back : (b : Step) (c : Clause) (ss : List Step) → IsShape ss → BeginsWith b ss → Each NameHolds (flat_map used_in ss) → Lead p R None ss c → Holds interp c → (d : Clause) × IsReplayed p R None b d × Holds interp d
  first_back b c [] shape begin names lead h = absurd begin
  first_back b c (s ∷ ss) shape begin names lead h =
      (lead.0, subst (λ (z : Step). IsReplayed p R None z lead.0) begin lead.1, lead_back lead.0 c ss shape.1 (Each_right NameHolds (used_in s) (flat_map used_in ss) names) lead.2 h)

  -- steps forwards
  lead_holds : Each (Holds interp) (clauses_of p) → ((n : Name) → NameHolds n) → (current : Option Clause) (ss : List Step) (c : Clause) → HoldsIfAny interp current → Lead p R current ss c → Holds interp c
  lead_holds inputs all current [] c h lead = subst (HoldsIfAny interp) lead h
  lead_holds inputs all current (s ∷ ss) c h lead =
      lead_holds inputs all (Some lead.0) ss c (q.replay_sound interp ii p R current s lead.0 inputs h (Each_all NameHolds all (names_in s)) lead.1) lead.2

  outcome_holds : (c : Clause) (o : Outcome) → OutcomeHolds R c o → Each NameHolds (outcome_names o) → Holds interp c
  outcome_holds c (Named n) x h = subst (Holds interp) x.2 (h.0 x.0 x.1)
  outcome_holds c Trivial x h = q.tautology_holds interp c x
  outcome_holds c (Subsumed d) x h = q.subsumed_holds interp ii x.0.clause c x.2 (h.0 x.0 x.1)

module _ (order : Order) (q : Premises order) (p : Problem) (policy : Policy) (w : World) (i : IsSound order p policy w) (interp : Interp) (ii : IsInterp interp) where
  -- ---- from the carried clauses to the input
  module _ (carry : Each (Holds interp) (carried w)) where
    here : (k : ℕ) → k < length w.locals → Each (Holds interp) (carried_by (at w k))
    here k l = flat_at (Holds interp) carried_by w.locals k l (Each_left (Holds interp) (flat_map carried_by w.locals) (filter_map coming_clause w.travelling) carry)

    pending_hold : (k : ℕ) → k < length w.locals → (place : ℕ) (it : Item) → slice_get (at w k).pending place ≡ Some it → Holds interp it.clause
    pending_hold k l place it there =
        let h = Each_right (Holds interp) (filter_map (live_clause (at w k).me) (at w k).known) (map (λ x. x.clause) (at w k).pending ++ filter_map coming_clause (at w k).waiting) (here k l) in
        let g = Each_left (Holds interp) (map (λ x. x.clause) (at w k).pending) (filter_map coming_clause (at w k).waiting) h in
        Each_at (λ x. Holds interp x.clause) (at w k).pending place it there (unmap (at w k).pending g)
      where
        unmap : (xs : List Item) → Each (Holds interp) (map (λ x. x.clause) xs) → Each (λ x. Holds interp x.clause) xs
        unmap [] h = tt
        unmap (x ∷ xs) h = (h.0, unmap xs h.1)

    coming : (r : Record) → Genuine (record_of w) r → (ls : List Letter) → Each (TrueLetter order p policy (length w.locals) (record_of w)) ls → Each (λ l. l.to ≡ r.owner) ls ⊎ Unit {0}
        → (t : Letter → Bool) → ((l : Letter) → t l ≡ true → is_kept r.name l ≡ true) → ((l : Letter) (k : ℕ) → slice_get ls k ≡ Some l → t l ≡ true → l.to ≡ r.owner) → 0 < tally t ls → Each (Holds interp) (filter_map coming_clause ls) → Holds interp r.clause
    coming r g ls true' x t kept to some' h =
        let f = tally_place t ls some' in
        let l = f.0 in
        go l f.1 f.2 (to l f.1 f.2 f.3) l.body refl (kept l f.3) (Each_at (TrueLetter order p policy (length w.locals) (record_of w)) ls f.1 l f.2 true').says
      where
        go : (l : Letter) (k : ℕ) → slice_get ls k ≡ Some l → l.to ≡ r.owner → (b : Body) → l.body ≡ b → body_is_kept r.name l.body ≡ true → TrueBody order p policy (length w.locals) (record_of w) l.sender l.to l.body → Holds interp r.clause
        go l k there to (body.Kept c) e y says =
            let y' : name_eq c.name r.name ≡ true = sym (ap (body_is_kept r.name) e) ∙ y in
            let says' = subst (TrueBody order p policy (length w.locals) (record_of w) l.sender l.to) e says in
            let is : Some c ≡ Some r = sym says'.0 ∙ ap (record_of w) (name_eq_true c.name r.name y') ∙ g in
            let is' : c ≡ r = cc in
            let own : eqb l.to c.owner ≡ true = (let z : l.to ≡ c.owner = to ∙ ap (λ (z : Record). z.owner) (sym is') in grind (arith, nat_tests, z)) in
            let gives : coming_clause l ≡ Some c.clause = ap (coming_body l.to) e ∙ rw own refl in
            subst (λ (z : Record). Holds interp z.clause) is' (gather_at (Holds interp) coming_clause ls k l c.clause there gives h)
        go l k there to (body.Notice a b z) e y says = absurd (let f : false ≡ true = sym (ap (body_is_kept r.name) e) ∙ y in cc)
        go l k there to (body.Token z) e y says = absurd (let f : false ≡ true = sym (ap (body_is_kept r.name) e) ∙ y in cc)

    live_holds : (r : Record) → Genuine (record_of w) r → IsLive w r → Holds interp r.clause
    live_holds r g live = by (cases_lt 0 (held_times r.name (at w r.owner))) (cases_lt 0 (waiting_times r.name (at w r.owner)))
      where
        in' : r.owner < length w.locals
        in' = (genuine_right order q p policy w i r g).in_range

        me : (at w r.owner).me ≡ r.owner
        me = (i.places r.owner in').0

        by : (0 < held_times r.name (at w r.owner)) ⊎ (held_times r.name (at w r.owner) ≤ 0) → (0 < waiting_times r.name (at w r.owner)) ⊎ (waiting_times r.name (at w r.owner) ≤ 0) → Holds interp r.clause
        by (inl a) b =
            let f = tally_place (λ e. is_of r.name e && is_held e) (at w r.owner).known a in
            let x = and_true (is_of r.name f.0) (is_held f.0) f.3 in
            let t = entry_is order q p policy w i r.owner in' r g f.1 f.0 f.2 x.0 in
            let own : eqb f.0.entry.owner (at w r.owner).me ≡ true = (let z : f.0.entry.owner ≡ (at w r.owner).me = ap (λ (z : Record). z.owner) t.1 ∙ sym me in grind (arith, nat_tests, z)) in
            let gives : live_clause (at w r.owner).me f.0 ≡ Some f.0.entry.clause = rw (x.1, own) refl in
            subst (λ (z : Record). Holds interp z.clause) t.1
            (gather_at (Holds interp) (live_clause (at w r.owner).me) (at w r.owner).known f.1 f.0 f.0.entry.clause f.2 gives
            (Each_left (Holds interp) (filter_map (live_clause (at w r.owner).me) (at w r.owner).known) (map (λ x. x.clause) (at w r.owner).pending ++ filter_map coming_clause (at w r.owner).waiting) (here r.owner in')))
        by (inr a) (inl b) =
            let t = i.truth.locals r.owner in' in
            let h = Each_right (Holds interp) (filter_map (live_clause (at w r.owner).me) (at w r.owner).known) (map (λ x. x.clause) (at w r.owner).pending ++ filter_map coming_clause (at w r.owner).waiting) (here r.owner in') in
            coming r g (at w r.owner).waiting t.waiting (inr tt) (is_kept r.name) (λ l z. z) (λ l k there z. Each_at (λ x. x.to ≡ (at w r.owner).me) (at w r.owner).waiting k l there t.mine ∙ me) b
            (Each_right (Holds interp) (map (λ x. x.clause) (at w r.owner).pending) (filter_map coming_clause (at w r.owner).waiting) h)
        by (inr a) (inr b) =
            coming r g w.travelling i.truth.travelling (inr tt) (is_kept_to r.name r.owner) (λ l z. (and_true (eqb l.to r.owner) (is_kept r.name l) z).1)
            (λ l k there z. eqb-true l.to r.owner (and_true (eqb l.to r.owner) (is_kept r.name l) z).0) (omega (arith, live, a, b))
            (Each_right (Holds interp) (flat_map carried_by w.locals) (filter_map coming_clause w.travelling) carry)

    -- names of smaller key hold
    names_hold : (r : Record) → ((d : Record) → Genuine (record_of w) d → IsBelow order d r → Holds interp d.clause) → (ns : List Name) → Each (NameBelow order (record_of w) r) ns → Each (NameHolds order q interp ii p (record_of w)) ns
    names_hold r ih ns h = Each_weaker (NameBelow order (record_of w) r) (NameHolds order q interp ii p (record_of w))
        (λ n x c e. (let s : Some x.0 ≡ Some c = sym x.1 ∙ e in let s' : x.0 ≡ c = cc in subst (λ (z : Record). Holds interp z.clause) s' (ih x.0 (named_genuine order q w n x.0 x.1) x.2))) ns h

    copied : (r : Record) → Genuine (record_of w) r → (c : Clause) (ss : List Step) → IsShape ss → BeginsWith (step.Copy r.name) ss → Each (NameHolds order q interp ii p (record_of w)) (flat_map used_in ss) → Lead p (record_of w) None ss c → Holds interp c → Holds interp r.clause
    copied r g c ss shape begin names lead h =
        let x = first_back order q interp ii p (record_of w) (step.Copy r.name) c ss shape begin names lead h in
        let y = q.copy_is p (record_of w) r.name x.0 x.1 in
        let s : Some y.0 ≡ Some r = sym y.1 ∙ g in
        let s' : y.0 ≡ r = cc in
        subst (λ (z : Record). Holds interp z.clause) s' (subst (Holds interp) y.2 x.2)

    outcome_below_names : (r : Record) (o : Outcome) → OutcomeBelow order (record_of w) r o → Each (NameBelow order (record_of w) r) (outcome_names o)
    outcome_below_names r (Named n) h = (h, tt)
    outcome_below_names r Trivial h = tt
    outcome_below_names r (Subsumed d) h = (h, tt)

    -- every record holds
    records_hold : (r : Record) → Genuine (record_of w) r → Holds interp r.clause
    records_hold = descent order q w (λ r. Holds interp r.clause) (λ r g ih. go r g ih (covered order q p policy w i r g))
      where
        go : (r : Record) → Genuine (record_of w) r → ((d : Record) → Genuine (record_of w) d → IsBelow order d r → Holds interp d.clause) → Covered order p w r → Holds interp r.clause
        go r g ih (inl live) = live_holds r g live
        go r g ih (inr (inl x)) = copied r g x.item.clause x.item.steps x.shape x.begins (names_hold r ih (flat_map used_in x.item.steps) x.goes_on) x.leads
            (pending_hold r.owner (genuine_right order q p policy w i r g).in_range x.place x.item x.there)
        go r g ih (inr (inr (inl x))) = q.subsumed_holds interp ii x.1.winner.clause r.clause x.1.hits (ih x.1.winner (named_genuine order q w x.0 x.1.winner x.1.recorded) x.1.below)
        go r g ih (inr (inr (inr x))) = copied r g x.clause x.entry.steps x.shape x.begins (names_hold r ih (flat_map used_in x.entry.steps) x.goes_on) x.leads
            (outcome_holds order q interp ii p (record_of w) x.clause x.entry.outcome x.outcome (names_hold r ih (outcome_names x.entry.outcome) (outcome_below_names r x.entry.outcome x.below)))

    all_names : (n : Name) → NameHolds order q interp ii p (record_of w) n
    all_names n r e = records_hold r (named_genuine order q w n r e)

    input_from : (k : ℕ) (c d : Clause) (ss : List Step) → slice_get (clauses_of p) k ≡ Some c → IsShape ss → BeginsWith (step.Input k) ss → Lead p (record_of w) None ss d → Holds interp d → Holds interp c
    input_from k c d ss there shape begin lead h =
        let x = first_back order q interp ii p (record_of w) (step.Input k) d ss shape begin (Each_all (NameHolds order q interp ii p (record_of w)) all_names (flat_map used_in ss)) lead h in
        let s : Some x.0 ≡ Some c = sym (q.input_is p (record_of w) k x.0 x.1) ∙ there in
        let s' : x.0 ≡ c = cc in
        subst (Holds interp) s' x.2

    input_holds : (k : ℕ) (c : Clause) → slice_get (clauses_of p) k ≡ Some c → 0 < length w.locals → Holds interp c
    input_holds k c there pos = by (cases_lt 0 (pending_times (origin.Input k) (at w (k % length w.locals))))
      where
        in' : k % length w.locals < length w.locals
        in' = omega (arith, pos)

        one : pending_times (origin.Input k) (at w (k % length w.locals)) + settled_times (origin.Input k) (at w (k % length w.locals)) ≡ 1
        one =
            let l = get_below (clauses_of p) k c there in
            let a : ltb k (length (clauses_of p)) ≡ true = grind (arith, nat_tests, l) in
            let b : eqb (k % length w.locals) (at w (k % length w.locals)).me ≡ true = (let m = (i.places (k % length w.locals) in').0 in grind (arith, nat_tests, m)) in
            (i.counted (k % length w.locals) in').inputs k ∙ rw (a, b) refl

        by : (0 < pending_times (origin.Input k) (at w (k % length w.locals))) ⊎ (pending_times (origin.Input k) (at w (k % length w.locals)) ≤ 0) → Holds interp c
        by (inl x) =
            let f = tally_place (λ y. origin_eq (origin.Input k) y.origin) (at w (k % length w.locals)).pending x in
            let t = Each_at (TrueItem order p (record_of w) (at w (k % length w.locals)).me) (at w (k % length w.locals)).pending f.1 f.0 f.2 (i.truth.locals (k % length w.locals) in').pending in
            go f.0.origin f.3 t.from_origin
          where
            go : (o : Origin) → origin_eq (origin.Input k) o ≡ true → FromOrigin order (record_of w) (at w (k % length w.locals)).me o (tally_place (λ y. origin_eq (origin.Input k) y.origin) (at w (k % length w.locals)).pending x).0.steps → Holds interp c
            go (origin.Input j) y z =
                let f = tally_place (λ y. origin_eq (origin.Input k) y.origin) (at w (k % length w.locals)).pending x in
                let t = Each_at (TrueItem order p (record_of w) (at w (k % length w.locals)).me) (at w (k % length w.locals)).pending f.1 f.0 f.2 (i.truth.locals (k % length w.locals) in').pending in
                input_from k c f.0.clause f.0.steps there t.shape (subst (λ (m : ℕ). BeginsWith (step.Input m) f.0.steps) (sym (eqb-true k j y)) z) t.leads (pending_hold (k % length w.locals) in' f.1 f.0 f.2)
            go (origin.Task u j) y z = absurd (let f : false ≡ true = y in cc)
            go (origin.Rework m) y z = absurd (let f : false ≡ true = y in cc)
        by (inr x) =
            let f = tally_place (λ y. origin_eq (origin.Input k) y.origin) (at w (k % length w.locals)).settled (omega (arith, one, x)) in
            let t = Each_at (TrueSettled order p (record_of w) (at w (k % length w.locals)).me) (at w (k % length w.locals)).settled f.1 f.0 f.2 (i.truth.locals (k % length w.locals) in').settled in
            go f.0 t f.0.origin f.3 t.from_origin
          where
            go : (e : Settled) → TrueSettled order p (record_of w) (at w (k % length w.locals)).me e → (o : Origin) → origin_eq (origin.Input k) o ≡ true → FromOrigin order (record_of w) (at w (k % length w.locals)).me o e.steps → Holds interp c
            go e t (origin.Input j) y z =
                input_from k c t.clause e.steps there t.shape (subst (λ (m : ℕ). BeginsWith (step.Input m) e.steps) (sym (eqb-true k j y)) z) t.leads
                (outcome_holds order q interp ii p (record_of w) t.clause e.outcome t.outcome (Each_all (NameHolds order q interp ii p (record_of w)) all_names (outcome_names e.outcome)))
            go e t (origin.Task u j) y z = absurd (let f : false ≡ true = y in cc)
            go e t (origin.Rework m) y z = absurd (let f : false ≡ true = y in cc)

    pub inputs_hold : 0 < length w.locals → Each (Holds interp) (clauses_of p)
    inputs_hold pos = each_from (Holds interp) (clauses_of p) (λ k c there. input_holds k c there pos)

  -- ---- from the records to the carried clauses
  pub carried_hold : Each (Holds interp) (clauses_of p) → ((n : Name) (r : Record) → record_of w n ≡ Some r → Holds interp r.clause) → Each (Holds interp) (carried w)
  carried_hold inputs all =
      Each_append (Holds interp) (flat_map carried_by w.locals) (filter_map coming_clause w.travelling)
      (flat_all (Holds interp) carried_by w.locals (λ k l. (let t = i.truth.locals k l in
      Each_append (Holds interp) (filter_map (live_clause (at w k).me) (at w k).known) (map (λ x. x.clause) (at w k).pending ++ filter_map coming_clause (at w k).waiting)
      (gather_all (Holds interp) (live_clause (at w k).me) (at w k).known (Each_weaker (TrueKnown order p policy (length w.locals) (record_of w) (at w k).me) (λ e. (c : Clause) → live_clause (at w k).me e ≡ Some c → Holds interp c) (λ e x c y. known_one k e x c y) (at w k).known t.known))
      (Each_append (Holds interp) (map (λ x. x.clause) (at w k).pending) (filter_map coming_clause (at w k).waiting)
      (Each_map (Holds interp) (λ x. x.clause) (at w k).pending (Each_weaker (TrueItem order p (record_of w) (at w k).me) (λ x. Holds interp x.clause) (λ x y. lead_holds order q interp ii p (record_of w) inputs all None x.steps x.clause tt y.leads) (at w k).pending t.pending))
      (letters (at w k).waiting t.waiting)))))
      (letters w.travelling i.truth.travelling)
    where
      known_one : (k : ℕ) (e : Known) → TrueKnown order p policy (length w.locals) (record_of w) (at w k).me e → (c : Clause) → live_clause (at w k).me e ≡ Some c → Holds interp c
      known_one k e x c y = go (is_held e && eqb e.entry.owner (at w k).me) y
        where
          go : (b : Bool) → cond b (Some e.entry.clause) None ≡ Some c → Holds interp c
          go true z = let s : e.entry.clause ≡ c = cc in subst (Holds interp) s (all e.entry.name e.entry x.genuine)
          go false z = absurd cc

      body_one : (l : Letter) (b : Body) → TrueBody order p policy (length w.locals) (record_of w) l.sender l.to b → (c : Clause) → coming_body l.to b ≡ Some c → Holds interp c
      body_one l (body.Kept r) x c y = go (eqb l.to r.owner) y
        where
          go : (b : Bool) → cond b (Some r.clause) None ≡ Some c → Holds interp c
          go true z = let s : r.clause ≡ c = cc in subst (Holds interp) s (all r.name r x.0)
          go false z = absurd cc
      body_one l (body.Notice a b h) x c y = absurd cc
      body_one l (body.Token t) x c y = absurd cc

      letters : (ls : List Letter) → Each (TrueLetter order p policy (length w.locals) (record_of w)) ls → Each (Holds interp) (filter_map coming_clause ls)
      letters ls t = gather_all (Holds interp) coming_clause ls (Each_weaker (TrueLetter order p policy (length w.locals) (record_of w)) (λ l. (c : Clause) → coming_clause l ≡ Some c → Holds interp c) (λ l x c y. body_one l l.body x.says c y) ls t)

-- ---- the records hold in every run
pub recorded_back : (n : Name) (xs : List Known) (e : Known) (r : Record) → recorded n (xs ++ e ∷ []) ≡ Some r → (recorded n xs ≡ Some r) ⊎ (e.entry ≡ r)
recorded_back n [] e r h = elim (is_of n e) as (λ b. cond b (Some e.entry) None ≡ Some r → (None ≡ Some r) ⊎ (e.entry ≡ r)) [ true ↦ λ g. inr cc | false ↦ λ g. absurd cc ] h
recorded_back n (x ∷ xs) e r h = elim (is_of n x) as (λ b. cond b (Some x.entry) (recorded n (xs ++ e ∷ [])) ≡ Some r → (cond b (Some x.entry) (recorded n xs) ≡ Some r) ⊎ (e.entry ≡ r)) [ true ↦ λ g. inl g | false ↦ λ g. recorded_back n xs e r g ] h

module _ (interp : Interp) (n : Name) (r : Record) where
  kept_back : (s : Local) (k : ℕ) (i : Item) (o : Outcome) (hit : Known → Option How) → (recorded n s.known ≡ Some r → Holds interp r.clause) → Holds interp i.clause → recorded n (kept s k i o hit).known ≡ Some r → Holds interp r.clause
  kept_back s k i (Named m) hit old new h =
      let st = resolution (Named m) (equations_of i.steps) in
      elim (recorded_back n (struck s.me hit (next_name s) (resolved i.origin st s.known)) (held (new_record s i)) r h) [
        | inl x ↦ old (sym (recorded_map n (strike_one s.me hit (next_name s)) (strike_entry s.me hit (next_name s)) (resolved i.origin st s.known) ∙ recorded_resolved n i.origin st s.known) ∙ x)
        | inr x ↦ subst (λ (z : Record). Holds interp z.clause) x new
      ]
  kept_back s k i Trivial hit old new h = old (sym (recorded_resolved n i.origin (resolution Trivial (equations_of i.steps)) s.known) ∙ h)
  kept_back s k i (Subsumed d) hit old new h = old (sym (recorded_resolved n i.origin (resolution (Subsumed d) (equations_of i.steps)) s.known) ∙ h)

  body_back : (s : Local) (b : Body) (o : Option Hit) (hit : Known → Option How) → (recorded n s.known ≡ Some r → Holds interp r.clause) → ((c : Record) → b ≡ body.Kept c → Holds interp c.clause) → recorded n (admitted_body s b o hit).known ≡ Some r → Holds interp r.clause
  body_back s (body.Kept c) None hit old new h =
      elim (recorded_back n (struck s.me hit c.name s.known) (held c) r h) [
        | inl x ↦ old (sym (recorded_map n (strike_one s.me hit c.name) (strike_entry s.me hit c.name) s.known) ∙ x)
        | inr x ↦ subst (λ (z : Record). Holds interp z.clause) x (new c refl)
      ]
  body_back s (body.Kept c) (Some y) hit old new h =
      elim (recorded_back n s.known (record { entry = c; status = loss s.me y.by y.how c }) r h)
      [ inl x ↦ old x | inr x ↦ subst (λ (z : Record). Holds interp z.clause) x (new c refl) ]
  body_back s (body.Notice a b w) o hit old new h = old (sym (recorded_map n (strike_one s.me (named_hit a w) b) (strike_entry s.me (named_hit a w) b) s.known) ∙ h)
  body_back s (body.Token t) o hit old new h = old h

module _ (order : Order) (q : Premises order) (p : Problem) (policy : Policy) (interp : Interp) (ii : IsInterp interp) (inputs : Each (Holds interp) (clauses_of p)) where
  abbrev pub RecordsHold : World → Type 0
  RecordsHold w = (n : Name) (r : Record) → record_of w n ≡ Some r → Holds interp r.clause

  step_hold : (w : World) (e : Event) (v : World) → WorldStep order p w e v → IsSound order p policy w → RecordsHold w → RecordsHold v
  step_hold w e v h i all n r g =
      elim (same_or_not n.peer e.peer) [
        | inr other ↦ all n r (subst (λ (s : Local). recorded n s.known ≡ Some r) (at_other order p w e v h n.peer other) g)
        | inl same ↦ go e.act h.found h.legal.fits (subst (λ (s : Local). recorded n s.known ≡ Some r) (ap (at v) same ∙ at_same order p w e v h) g)
      ]
    where
      s : Local
      s = at w e.peer

      old : recorded n s.known ≡ Some r → Holds interp r.clause
      old x = all r.name r (mine x)
        where
          mine : recorded n s.known ≡ Some r → record_of w r.name ≡ Some r
          mine x = local_registry order q p policy (length w.locals) (record_of w) s.me s.known (i.truth.locals e.peer h.in_range).known r.name r
              (subst (λ (m : Name). recorded m s.known ≡ Some r) (sym (recorded_named n s.known r x)) x)

      t : IsTrue order p policy (length w.locals) (record_of w) s
      t = i.truth.locals e.peer h.in_range

      letter : (l : Letter) (k : ℕ) → slice_get s.waiting k ≡ Some l → (c : Record) → l.body ≡ body.Kept c → Holds interp c.clause
      letter l k there c y =
          let x = Each_at (TrueLetter order p policy (length w.locals) (record_of w)) s.waiting k l there t.waiting in
          let z = subst (TrueBody order p policy (length w.locals) (record_of w) l.sender l.to) y x.says in
          all c.name c z.0

      go : (a : Act) (f : Found a) → Fits order p s a f → recorded n (acted s a f).known ≡ Some r → Holds interp r.clause
      go (Rewrite k) f fits x = old x
      go (Keep k) f fits x = kept_back interp n r s k f.item f.outcome f.hit old
          (let y = Each_at (TrueItem order p (record_of w) s.me) s.pending k f.item fits.there t.pending in lead_holds order q interp ii p (record_of w) inputs all None f.item.steps f.item.clause tt y.leads) x
      go (Receive l) f fits x = old x
      go (Admit k) f fits x = body_back interp n r (unshelved s k) f.letter.body f.forward f.hit old (letter f.letter k fits.there) x
      go (Reject k) f fits x = old x
      go (Work u) f fits x = old x
      go Pass f fits x = (elim (eqb s.peers 1) as (λ b. recorded n (cond b (record s { token = Some (passed s.peers s.count f) }) (record s { token = None })).known ≡ Some r → Holds interp r.clause) [ true ↦ old | false ↦ old ]) x
      go Declare f fits x = old x
      go (End u) f fits x = old x

  pub run_holds : (es : List Event) (w v : World) → Run order p w es v → IsSound order p policy w → RecordsHold w → RecordsHold v
  run_holds [] w v run i h = subst RecordsHold (sym run) h
  run_holds (e ∷ es) w v run i h = run_holds es run.0 v run.2 (step_sound order q p policy w e run.0 run.1 i) (step_hold w e run.0 run.1 i h)
