-- Every record leads to live ones along falling keys.
use Rattle.std.proofs.Common.{◌≡◌, ℕ, zero, suc, ◌+◌, ◌<◌, ◌≤◌, Bool, true, false, ◌&&◌, not, cond, List, [], ◌∷◌, length, get_or, arith, refl, ap, sym, ◌∙◌, subst, inl, inr, ◌⊎◌}
use Rattle.std.specs.Prelude.{slice_get, Option, Some, None}
use Rattle.std.specs.List.{flat_map}
use Rattle.std.proofs.lemmas.List.{get_or_past}
use Rattle.std.proofs.lemmas.Bool.{cases_lt}
use Rattle.std.proofs.lemmas.Bool.Decides.{nat_tests}
use Rattle.cd_steps.specs.declared.Step.TheVariants as step
use Rattle.cd_names.specs.declared.How.TheVariants as how
use Rattle.cd_ledger.specs.declared.items.Origin.TheVariants as origin
use Rattle.cd_ledger.specs.declared.records.Reason.TheVariants as reason
use Rattle.cd_clause.specs.declared.Clause.{Clause}
use Rattle.cd_names.specs.declared.names.Name.{Name}
use Rattle.cd_ledger.specs.declared.items.Origin.{Origin}
use Rattle.cd_ledger.specs.declared.items.Item.{Item}
use Rattle.cd_ledger.specs.declared.records.Record.{Record}
use Rattle.cd_ledger.specs.declared.records.Status.{Status}
use Rattle.cd_ledger.specs.declared.records.Status.TheVariants.{Dropped, Held, Rework, Told}
use Rattle.cd_ledger.specs.declared.records.Known.{Known}
use Rattle.cd_ledger.specs.declared.items.Outcome.{Outcome}
use Rattle.cd_ledger.specs.declared.items.Outcome.TheVariants.{Named, Subsumed, Trivial}
use Rattle.cd_ledger.specs.declared.items.Settled.{Settled}
use Rattle.cd_names.specs.declared.ownership.Policy.{Policy}
use Rattle.cd_ledger.specs.declared.local.Local.{Local}
use Rattle.cd_list.specs.Lists.{tally}
use Rattle.std.specs.List.{AllByRecursion as Each}
use Rattle.cd_read.specs.declared.problem.Problem.{Problem}
use Rattle.cd_ledger.specs.Records.{IsShape, equations_of, is_of, recorded, used_in}
use Rattle.cd_machine.specs.Right.{Lead}
use Rattle.cd_ledger.specs.Statuses.{is_held, is_rework, status_holds, status_reworks}
use Rattle.cd_machine.specs.Acts.{resolution}
use Rattle.cd_machine.specs.Hits.{IsBelow}
use Rattle.cd_machine.specs.World.{World, at, nobody}
use Rattle.cd_laws.specs.Premises.{Premises}
use Rattle.cd_machine.specs.Spread.{Genuine, held_times, issued, known_times, record_of, travelling_times, waiting_times}
use Rattle.cd_laws.specs.Sound.{Beaten, BeginsWith, EndFalls, ForcedFits, FromOrigin, IsRight, IsSound, ItemFalls, Linked, NameBelow, OutcomeBelow, OutcomeHolds, StatusIs, TrueItem, TrueKnown, TrueSettled, TrueStatus, is_ended, origin_eq, pending_times, settled_times, status_ends}
use Rattle.cd_laws.specs.Statements.{ByEntry, ByItem, Covered, Descends, DescendsIn, forced_names, outcome_names, rests}
use Rattle.cd_laws.proofs.Lists.{Each_append, Each_at, Each_weaker, and_true, not_true, tally_le, tally_under}
use Rattle.cd_laws.proofs.Steps.{name_eq_true}
use Rattle.cd_laws.proofs.Tallies.{few_reworks}
use Rattle.cd_laws.proofs.Truth.{recorded_true}
use Rattle.cd_kbo.specs.declared.order.Order.{Order}

-- a place where one passes
pub tally_place : {A : Type 0} (t : A → Bool) (xs : List A) → 0 < tally t xs → (x : A) × (k : ℕ) × (slice_get xs k ≡ Some x) × (t x ≡ true)
tally_place t [] h = absurd (omega arith)
tally_place t (x ∷ xs) h = go (t x) refl h (tally_place t xs)
  where
    go : (b : Bool) → t x ≡ b → 0 < cond b 1 0 + tally t xs → (0 < tally t xs → (y : _) × (k : ℕ) × (slice_get xs k ≡ Some y) × (t y ≡ true)) → (y : _) × (k : ℕ) × (slice_get (x ∷ xs) k ≡ Some y) × (t y ≡ true)
    go true e h r = (x, 0, refl, e)
    go false e h r = let z = r (omega (arith, h)) in (z.0, suc z.1, z.2, z.3)

pub tally_at : {A : Type 0} (t : A → Bool) (xs : List A) (k : ℕ) (x : A) → slice_get xs k ≡ Some x → t x ≡ true → 0 < tally t xs
tally_at t [] k x h g = cc
tally_at t (y ∷ xs) zero x h g = let e : y ≡ x = cc in let f : t y ≡ true = ap t e ∙ g in rw f (omega arith)
tally_at t (y ∷ xs) (suc k) x h g = omega (arith, tally_at t xs k x h g)

pub recorded_counts : (n : Name) (es : List Known) (r : Record) → recorded n es ≡ Some r → 0 < tally (is_of n) es
recorded_counts n [] r h = cc
recorded_counts n (e ∷ es) r h = elim (is_of n e) as (λ b. cond b (Some e.entry) (recorded n es) ≡ Some r → 0 < cond b 1 0 + tally (is_of n) es) [ true ↦ λ g. omega arith | false ↦ λ g. omega (arith, recorded_counts n es r g) ] h

pub recorded_named : (n : Name) (es : List Known) (r : Record) → recorded n es ≡ Some r → r.name ≡ n
recorded_named n [] r h = cc
recorded_named n (e ∷ es) r h = go (is_of n e) refl h (recorded_named n es r)
  where
    go : (b : Bool) → is_of n e ≡ b → cond b (Some e.entry) (recorded n es) ≡ Some r → (recorded n es ≡ Some r → r.name ≡ n) → r.name ≡ n
    go true x g rest = let f : e.entry ≡ r = cc in ap (λ (c : Record). c.name) (sym f) ∙ name_eq_true e.entry.name n x
    go false x g rest = rest g

pub held_and_unheld : (n : Name) (es : List Known) → tally (λ e. is_of n e && is_held e) es + tally (λ e. is_of n e && not (is_held e)) es ≡ tally (is_of n) es
held_and_unheld n [] = refl
held_and_unheld n (e ∷ es) = go (is_of n e) (is_held e) (held_and_unheld n es)
  where
    go : (a b : Bool) → tally (λ e. is_of n e && is_held e) es + tally (λ e. is_of n e && not (is_held e)) es ≡ tally (is_of n) es
        → (cond (a && b) 1 0 + tally (λ e. is_of n e && is_held e) es) + (cond (a && not b) 1 0 + tally (λ e. is_of n e && not (is_held e)) es) ≡ cond a 1 0 + tally (is_of n) es
    go true true ih = omega (arith, ih)
    go true false ih = omega (arith, ih)
    go false b ih = omega (arith, ih)

abbrev is_inl : {A B : Type 0} → A ⊎ B → Bool
is_inl (inl a) = true
is_inl (inr b) = false

module _ (order : Order) (q : Premises order) where
  -- whether the first record has the smaller key
  abbrev below : Record → Record → Bool
  below d r = is_inl (q.key_decides d.clause r.clause (Some d.name) (Some r.name))

  below_true : (d r : Record) → IsBelow order d r → below d r ≡ true
  below_true d r h = go (q.key_decides d.clause r.clause (Some d.name) (Some r.name))
    where
      go : (x : IsBelow order d r ⊎ (IsBelow order d r → ⊥)) → is_inl x ≡ true
      go (inl a) = refl
      go (inr b) = absurd (b h)

  true_below : (d r : Record) → below d r ≡ true → IsBelow order d r
  true_below d r h = go (q.key_decides d.clause r.clause (Some d.name) (Some r.name)) h
    where
      go : (x : IsBelow order d r ⊎ (IsBelow order d r → ⊥)) → is_inl x ≡ true → IsBelow order d r
      go (inl a) e = a
      go (inr b) e = absurd (let f : false ≡ true = e in cc)

  below_self : (r : Record) → below r r ≡ false
  below_self r = go (below r r) refl
    where
      go : (b : Bool) → below r r ≡ b → below r r ≡ false
      go true e = absurd (q.key_irrefl r.clause (Some r.name) (true_below r r e))
      go false e = e

  below_trans : (a b c : Record) → below a b ≡ true → below b c ≡ true → below a c ≡ true
  below_trans a b c h g = below_true a c (q.key_trans a.clause b.clause c.clause (Some a.name) (Some b.name) (Some c.name) (true_below a b h) (true_below b c g))

  -- how many known entries of all peers have a smaller key
  abbrev ranks : Record → List Local → ℕ
  ranks r [] = 0
  ranks r (s ∷ ss) = tally (λ e. below e.entry r) s.known + ranks r ss

  ranks_le : (d r : Record) → below d r ≡ true → (ss : List Local) → ranks d ss ≤ ranks r ss
  ranks_le d r k [] = omega arith
  ranks_le d r k (s ∷ ss) = omega (arith, ranks_le d r k ss, tally_le (λ e. below e.entry d) (λ e. below e.entry r) (λ x h. below_trans x.entry d r h k) s.known)

  -- more strictly, where an entry passes the one and not the other
  more : (d r : Record) → below d r ≡ true → (n : Name) (xs : List Known) → recorded n xs ≡ Some d → tally (λ e. below e.entry d) xs < tally (λ e. below e.entry r) xs
  more d r k n [] h = cc
  more d r k n (x ∷ xs) h = elim (is_of n x) as (λ b. cond b (Some x.entry) (recorded n xs) ≡ Some d → cond (below x.entry d) 1 0 + tally (λ e. below e.entry d) xs < cond (below x.entry r) 1 0 + tally (λ e. below e.entry r) xs) [
    | true ↦ λ g. (let e : x.entry ≡ d = cc in
        let a : below x.entry d ≡ false = ap (λ z. below z d) e ∙ below_self d in
        let b : below x.entry r ≡ true = ap (λ z. below z r) e ∙ k in
        rw (a, b) (omega (arith, tally_le (λ e. below e.entry d) (λ e. below e.entry r) (λ x h. below_trans x.entry d r h k) xs)))
    | false ↦ λ g. omega (arith, more d r k n xs g, tally_le (λ e. below e.entry d) (λ e. below e.entry r) (λ x h. below_trans x.entry d r h k) (x ∷ []))
  ] h

  ranks_lt : (d r : Record) → below d r ≡ true → (ss : List Local) (k : ℕ) → k < length ss → recorded d.name (get_or ss k nobody).known ≡ Some d → ranks d ss < ranks r ss
  ranks_lt d r x [] k l h = absurd (omega arith)
  ranks_lt d r x (s ∷ ss) zero l h = omega (arith, ranks_le d r x ss, more d r x d.name s.known h)
  ranks_lt d r x (s ∷ ss) (suc k) l h = omega (arith, ranks_lt d r x ss k (omega (arith, l)) h, tally_le (λ e. below e.entry d) (λ e. below e.entry r) (λ y h. below_trans y.entry d r h x) s.known)

  -- a name with a record was made by one of the peers
  pub recorded_in : (w : World) (n : Name) (r : Record) → record_of w n ≡ Some r → n.peer < length w.locals
  recorded_in w n r g = elim (cases_lt n.peer (length w.locals)) [ inl l ↦ l | inr o ↦ absurd (none (subst (λ (s : Local). recorded n s.known ≡ Some r) (get_or_past w.locals n.peer nobody o) g)) ]
    where
      none : None ≡ Some r → ⊥
      none f = cc

  pub named_genuine : (w : World) (n : Name) (d : Record) → record_of w n ≡ Some d → Genuine (record_of w) d
  named_genuine w n d g = ap (record_of w) (recorded_named n (at w n.peer).known d g) ∙ g

  -- what holds of a record where it holds of all records of smaller key
  below_all : (w : World) (P : Record → Type 0) → ((r : Record) → Genuine (record_of w) r → ((d : Record) → Genuine (record_of w) d → IsBelow order d r → P d) → P r)
      → (m : ℕ) (r : Record) → ranks r w.locals < m → Genuine (record_of w) r → P r
  below_all w P f zero r l g = absurd (omega (arith, l))
  below_all w P f (suc m) r l g = f r g (λ d h b. below_all w P f m d (let x = ranks_lt d r (below_true d r b) w.locals d.name.peer (recorded_in w d.name d h) h in omega (arith, x, l)) h)

  pub descent : (w : World) (P : Record → Type 0) → ((r : Record) → Genuine (record_of w) r → ((d : Record) → Genuine (record_of w) d → IsBelow order d r → P d) → P r)
      → (r : Record) → Genuine (record_of w) r → P r
  descent w P f r g = below_all w P f (ranks r w.locals + 1) r (omega arith) g

  module _ (p : Problem) (policy : Policy) (w : World) (i : IsSound order p policy w) where
    pub genuine_right : (r : Record) → Genuine (record_of w) r → IsRight p policy (length w.locals) (record_of w) r
    genuine_right r g =
        let x = recorded_true (TrueKnown order p policy (length w.locals) (record_of w) (at w r.name.peer).me) r.name (at w r.name.peer).known r (i.truth.locals r.name.peer (recorded_in w r.name r g)).known g in
        subst (IsRight p policy (length w.locals) (record_of w)) x.2 x.1.right

    pub record_once : (r : Record) → Genuine (record_of w) r → (k : ℕ) → k < length w.locals → known_times r.name (at w k) + waiting_times r.name (at w k) + travelling_times r.name k w ≡ 1
    record_once r g k l =
        let c = recorded_counts r.name (at w r.name.peer).known r g in
        let s = i.spread r.name r.name.peer (recorded_in w r.name r g) in
        let few : issued r.name w ≤ 1 = grind (arith, nat_tests) in
        let t = i.spread r.name k l in
        omega (arith, c, s, few, t)

    -- an entry of a record's name has the record
    pub entry_is : (k : ℕ) → k < length w.locals → (r : Record) → Genuine (record_of w) r → (place : ℕ) (e : Known) → slice_get (at w k).known place ≡ Some e → is_of r.name e ≡ true
        → TrueKnown order p policy (length w.locals) (record_of w) (at w k).me e × (e.entry ≡ r)
    entry_is k l r g place e there x =
        let t = Each_at (TrueKnown order p policy (length w.locals) (record_of w) (at w k).me) (at w k).known place e there (i.truth.locals k l).known in
        let c : Some e.entry ≡ Some r = sym t.genuine ∙ ap (record_of w) (name_eq_true e.entry.name r.name x) ∙ g in
        (t, cc)

    -- a record is live, or has its reason
    pub covered : (r : Record) → Genuine (record_of w) r → Covered order p w r
    covered r g = by (cases_lt 0 (held_times r.name s + waiting_times r.name s + travelling_times r.name r.owner w))
      where
        s : Local
        s = at w r.owner

        in' : r.owner < length w.locals
        in' = (genuine_right r g).in_range

        me : s.me ≡ r.owner
        me = (i.places r.owner in').0

        by_item : (e : Known) (place : ℕ) → slice_get s.known place ≡ Some e → is_of r.name e ≡ true → is_rework e ≡ true → ByItem order p w r
        by_item e place there x y =
            let some' = tally_at (λ k. is_of r.name k && is_rework k) s.known place e there (rw (x, y) refl) in
            let c = i.counted r.owner in' in
            let few = few_reworks r.name s.known (c.once r.name) in
            let eq = c.reworks r.name in
            let f = tally_place (λ k. origin_eq (origin.Rework r.name) k.origin) s.pending (omega (arith, some', eq)) in
            let t = Each_at (TrueItem order p (record_of w) s.me) s.pending f.1 f.0 f.2 (i.truth.locals r.owner in').pending in
            go f.0 f.1 f.2 t.shape f.0.origin f.3 t.from_origin t.falls t.leads (omega (arith, eq, few, some'))
          where
            go : (it : Item) (k : ℕ) → slice_get s.pending k ≡ Some it → IsShape it.steps → (o : Origin) → origin_eq (origin.Rework r.name) o ≡ true → FromOrigin order (record_of w) s.me o it.steps → ItemFalls order (record_of w) o it.forced it.clause
                → Lead p (record_of w) None it.steps it.clause → pending_times (origin.Rework r.name) s ≡ 1 → ByItem order p w r
            go it k h sh (origin.Input j) x a b c d = absurd (let f : false ≡ true = x in cc)
            go it k h sh (origin.Task t j) x a b c d = absurd (let f : false ≡ true = x in cc)
            go it k h sh (origin.Rework m) x a b c d =
                let same : m ≡ r.name = name_eq_true m r.name x in
                let is : Some a.loser ≡ Some r = sym a.recorded ∙ ap (record_of w) same ∙ g in
                let is' : a.loser ≡ r = cc in
                let it' : Some b.0 ≡ Some r = sym b.1 ∙ ap (record_of w) same ∙ g in
                let it'' : b.0 ≡ r = cc in
                record {
                  item = it;
                  place = k;
                  there = h;
                  once = d;
                  shape = sh;
                  begins = subst (λ (z : Name). BeginsWith (step.Copy z) it.steps) same a.begins;
                  leads = c;
                  goes_on = subst (λ (z : Record). Each (NameBelow order (record_of w) z) (flat_map used_in it.steps)) is' a.below;
                  forced = subst (λ (z : Record). (ForcedFits order) (record_of w) z it.clause it.forced) it'' b.2;
                }

        by_entry : (e : Known) (place : ℕ) → slice_get s.known place ≡ Some e → is_of r.name e ≡ true → is_ended e ≡ true → ByEntry order p w r
        by_entry e place there x y =
            let some' = tally_at (λ k. is_of r.name k && is_ended k) s.known place e there (rw (x, y) refl) in
            let c = i.counted r.owner in' in
            let few = tally_under (is_of r.name) is_ended s.known in
            let few' = c.once r.name in
            let eq = c.ended r.name in
            let f = tally_place (λ k. origin_eq (origin.Rework r.name) k.origin) s.settled (omega (arith, some', eq)) in
            let t = Each_at (TrueSettled order p (record_of w) s.me) s.settled f.1 f.0 f.2 (i.truth.locals r.owner in').settled in
            go f.0 f.1 f.2 t.shape f.0.origin f.3 (Each_at (Linked s.known) s.settled f.1 f.0 f.2 (i.linked r.owner in')) t.from_origin t.clause t.leads t.outcome t.falls (omega (arith, eq, few, few', some'))
          where
            go : (it : Settled) (k : ℕ) → slice_get s.settled k ≡ Some it → IsShape it.steps → (o : Origin) → origin_eq (origin.Rework r.name) o ≡ true → StatusIs s.known o (resolution it.outcome (equations_of it.steps)) → FromOrigin order (record_of w) s.me o it.steps → (c : Clause)
                → Lead p (record_of w) None it.steps c → OutcomeHolds (record_of w) c it.outcome → EndFalls order (record_of w) o it.outcome → settled_times (origin.Rework r.name) s ≡ 1 → ByEntry order p w r
            go it k h sh (origin.Input j) x lk a c l out b d = absurd (let f : false ≡ true = x in cc)
            go it k h sh (origin.Task t j) x lk a c l out b d = absurd (let f : false ≡ true = x in cc)
            go it k h sh (origin.Rework m) x lk a c l out b d =
                let same : m ≡ r.name = name_eq_true m r.name x in
                let is : Some a.loser ≡ Some r = sym a.recorded ∙ ap (record_of w) same ∙ g in
                let is' : a.loser ≡ r = cc in
                let it' : Some b.0 ≡ Some r = sym b.1 ∙ ap (record_of w) same ∙ g in
                let it'' : b.0 ≡ r = cc in
                record {
                  entry = it;
                  clause = c;
                  place = k;
                  there = h;
                  once = d;
                  shape = sh;
                  begins = subst (λ (z : Name). BeginsWith (step.Copy z) it.steps) same a.begins;
                  leads = l;
                  goes_on = subst (λ (z : Record). Each (NameBelow order (record_of w) z) (flat_map used_in it.steps)) is' a.below;
                  outcome = out;
                  below = subst (λ (z : Record). (OutcomeBelow order) (record_of w) z it.outcome) it'' b.2;
                  reason = subst (λ (z : Name). Each (λ e. is_of z e ≡ true → e.status ≡ resolution it.outcome (equations_of it.steps)) s.known) same lk;
                }

        by_status : (e : Known) (place : ℕ) → slice_get s.known place ≡ Some e → is_of r.name e ≡ true → is_held e ≡ false → e.entry ≡ r → (st : Status) → e.status ≡ st → TrueStatus order (record_of w) s.me e.entry st → Covered order p w r
        by_status e place there x nh same Held y t = absurd (let f : is_held e ≡ true = ap status_holds y in let g : false ≡ true = sym nh ∙ f in cc)
        by_status e place there x nh same (Rework d) y t = inr (inl (by_item e place there x (ap status_reworks y)))
        by_status e place there x nh same (Dropped (reason.Subsumed d)) y t = inr (inr (inl (d, subst (λ (z : Record). (Beaten order) (record_of w) z d how.Subsumes) same t.1)))
        by_status e place there x nh same (Dropped (reason.Replaced a b)) y t = inr (inr (inr (by_entry e place there x (ap status_ends y))))
        by_status e place there x nh same (Dropped (reason.Simplified a b)) y t = inr (inr (inr (by_entry e place there x (ap status_ends y))))
        by_status e place there x nh same (Told d) y t = absurd (t (ap (λ (z : Record). z.owner) same ∙ sym me))

        by : (0 < held_times r.name s + waiting_times r.name s + travelling_times r.name r.owner w) ⊎ (held_times r.name s + waiting_times r.name s + travelling_times r.name r.owner w ≤ 0) → Covered order p w r
        by (inl l) = inl l
        by (inr n) =
            let o = record_once r g r.owner in' in
            let hu = held_and_unheld r.name s.known in
            let f = tally_place (λ k. is_of r.name k && not (is_held k)) s.known (omega (arith, n, o, hu)) in
            let z = and_true (is_of r.name f.0) (not (is_held f.0)) f.3 in
            let t = entry_is r.owner in' r g f.1 f.0 f.2 z.0 in
            by_status f.0 f.1 f.2 z.0 (not_true (is_held f.0) z.1) t.1 f.0.status refl t.0.status

    -- what a cover rests on has a smaller key
    rests_below : (r : Record) → (c : Covered order p w r) → Each (NameBelow order (record_of w) r) (rests order p w r c)
    rests_below r (inl l) = tt
    rests_below r (inr (inl x)) = Each_append (NameBelow order (record_of w) r) (forced_names x.item.forced) (flat_map used_in x.item.steps) (go x.item.forced x.forced) x.goes_on
      where
        go : (f : Option Name) → ForcedFits order (record_of w) r x.item.clause f → Each (NameBelow order (record_of w) r) (forced_names f)
        go None h = tt
        go (Some d) h = ((h.1.winner, h.1.recorded, h.1.below), tt)
    rests_below r (inr (inr (inl x))) = ((x.1.winner, x.1.recorded, x.1.below), tt)
    rests_below r (inr (inr (inr x))) = Each_append (NameBelow order (record_of w) r) (outcome_names x.entry.outcome) (flat_map used_in x.entry.steps) (go x.entry.outcome x.below) x.goes_on
      where
        go : (o : Outcome) → OutcomeBelow order (record_of w) r o → Each (NameBelow order (record_of w) r) (outcome_names o)
        go (Named n) h = (h, tt)
        go Trivial h = tt
        go (Subsumed d) h = (h, tt)

    descends_in : (m : ℕ) (r : Record) → ranks r w.locals < m → Genuine (record_of w) r → DescendsIn order m p w r
    descends_in zero r l g = absurd (omega (arith, l))
    descends_in (suc m) r l g =
        let c = covered r g in (
          c,
          Each_weaker (NameBelow order (record_of w) r) (λ n. (d : Record) × (record_of w n ≡ Some d) × DescendsIn order m p w d)
              (λ n x. (let gd = named_genuine w n x.0 x.1 in let k = ranks_lt x.0 r (below_true x.0 r x.2) w.locals x.0.name.peer (recorded_in w x.0.name x.0 gd) gd in
              (x.0, x.1, descends_in m x.0 (omega (arith, k, l)) gd))) (rests order p w r c) (rests_below r c),
        )

    pub descends : (r : Record) → Genuine (record_of w) r → Descends order p w r
    descends r g = (ranks r w.locals + 1, descends_in (ranks r w.locals + 1) r (omega arith) g)
