-- Each inference between live records is accounted for.
use Rattle.std.proofs.Common.{◌≡◌, ℕ, ◌+◌, ◌<◌, ◌≤◌, ◌≢◌, Bool, true, false, ◌&&◌, not, cond, eqb, ltb, List, [], ◌∷◌, length, arith, refl, ap, sym, ◌∙◌, subst, inl, inr, ◌⊎◌}
use Rattle.std.specs.Prelude.{slice_get, Some, None}
use Rattle.std.proofs.lemmas.Bool.{eqb-true, cases_lt}
use Rattle.std.proofs.lemmas.Bool.Decides.{nat_tests}
use Rattle.cd_ledger.specs.declared.items.Origin.TheVariants as origin
use Rattle.cd_clause.specs.declared.Clause.{Clause}
use Rattle.cd_names.specs.declared.names.Name.{Name}
use Rattle.cd_steps.specs.declared.Step.{Step}
use Rattle.cd_tasks.specs.declared.Task.{Task}
use Rattle.cd_tasks.specs.declared.Task.TheVariants.{Pair, Solo}
use Rattle.cd_ledger.specs.declared.items.Origin.{Origin}
use Rattle.cd_infer.specs.declared.Conclusion.{Conclusion}
use Rattle.cd_ledger.specs.declared.records.Record.{Record}
use Rattle.cd_ledger.specs.declared.records.Status.{Status}
use Rattle.cd_ledger.specs.declared.records.Status.TheVariants.{Dropped, Held, Rework, Told}
use Rattle.cd_ledger.specs.declared.records.Known.{Known}
use Rattle.cd_ledger.specs.declared.letters.Letter.{Letter}
use Rattle.cd_names.specs.declared.ownership.Policy.{Policy}
use Rattle.cd_list.specs.Lists.{tally}
use Rattle.std.specs.List.{AllByRecursion as Each}
use Rattle.cd_read.specs.declared.problem.Problem.{Problem}
use Rattle.cd_ledger.specs.Records.{Registry, is_of}
use Rattle.cd_machine.specs.Rules.{PairConcludes, SoloConcludes}
use Rattle.cd_names.specs.Names.{name_eq}
use Rattle.cd_machine.specs.Right.{Lead}
use Rattle.cd_ledger.specs.Statuses.{is_held, status_holds}
use Rattle.cd_machine.specs.Acts.{Concludes}
use Rattle.cd_machine.specs.World.{World, at}
use Rattle.cd_laws.specs.Premises.{Premises}
use Rattle.cd_machine.specs.Spread.{Genuine, held_times, known_times, record_of, travelling_times, waiting_times}
use Rattle.cd_laws.specs.Sound.{BeginsWith, FromOrigin, HasTold, IsMine, IsSound, OutcomeHolds, OwesPair, TrueDone, TrueItem, TrueKnown, TrueLetter, TrueSettled, TrueStatus, done_times, heard, home_times, origin_eq, owed_times, status_told, task_eq, tells, tells_to, unheld_times}
use Rattle.cd_machine.specs.Carried.{IsLive}
use Rattle.cd_laws.specs.Statements.{AccountedPair, AccountedSolo, Comes, Elsewhere, IsDone, OwedOrDone, ToldAway}
use Rattle.cd_laws.proofs.Lists.{Each_at, Each_weaker, and_true, found, not_true, tally_under}
use Rattle.cd_laws.proofs.Steps.{name_eq_true}
use Rattle.cd_laws.proofs.Descent.{entry_is, genuine_right, held_and_unheld, record_once, tally_at, tally_place}
use Rattle.cd_laws.proofs.Models.{get_below}
use Rattle.cd_kbo.specs.declared.order.Order.{Order}

task_same : (t u : Task) → task_eq t u ≡ true → u ≡ t
task_same (Solo a) (Solo b) h = ap Solo (name_eq_true b a h)
task_same (Solo a) (Pair b c) h = absurd (let f : false ≡ true = h in cc)
task_same (Pair a b) (Solo c) h = absurd (let f : false ≡ true = h in cc)
task_same (Pair a b) (Pair c d) h =
    let g = and_true (name_eq c a) (name_eq d b) h in
    ap (λ (n : Name). Pair n d) (name_eq_true c a g.0) ∙ ap (λ (n : Name). Pair a n) (name_eq_true d b g.1)

-- what is held at home, where the record's owner is here
home_is_held : (order : Order) → (p : Problem) (policy : Policy) (n : ℕ) (R : Registry) (me : ℕ) (r : Record) → Genuine R r → r.owner ≡ me → (es : List Known) → Each (TrueKnown order p policy n R me) es
    → tally (λ e. is_of r.name e && (is_held e && eqb e.entry.owner me)) es ≡ tally (λ e. is_of r.name e && is_held e) es
home_is_held order p policy n R me r g o [] h = refl
home_is_held order p policy n R me r g o (e ∷ es) h = go (is_of r.name e) (is_held e) (eqb e.entry.owner me) refl refl (home_is_held order p policy n R me r g o es h.1)
  where
    here : is_of r.name e ≡ true → eqb e.entry.owner me ≡ true
    here x =
        let f : Some e.entry ≡ Some r = sym h.0.genuine ∙ ap R (name_eq_true e.entry.name r.name x) ∙ g in
        let same : e.entry ≡ r = cc in
        rw (same, o) (grind (arith, nat_tests))

    go : (a b c : Bool) → is_of r.name e ≡ a → eqb e.entry.owner me ≡ c → tally (λ e. is_of r.name e && (is_held e && eqb e.entry.owner me)) es ≡ tally (λ e. is_of r.name e && is_held e) es
        → cond (a && (b && c)) 1 0 + tally (λ e. is_of r.name e && (is_held e && eqb e.entry.owner me)) es ≡ cond (a && b) 1 0 + tally (λ e. is_of r.name e && is_held e) es
    go true true true x y ih = omega (arith, ih)
    go true true false x y ih = (let z = here x in let no' : false ≡ true = sym y ∙ z in cc)
    go true false c x y ih = omega (arith, ih)
    go false b c x y ih = omega (arith, ih)

module _ (order : Order) (q : Premises order) (p : Problem) (policy : Policy) (w : World) (i : IsSound order p policy w) where
  concludes_once : (t : Task) (f g : List Conclusion) → Concludes order (record_of w) t f → Concludes order (record_of w) t g → f ≡ g
  concludes_once (Solo a) f g x y =
      let s : Some x.0 ≡ Some y.0 = sym x.1 ∙ y.1 in let s' : x.0 ≡ y.0 = cc in
      q.solo_once a y.0.clause f g (subst (λ (z : Record). (SoloConcludes order) a z.clause f) s' x.2) y.2
  concludes_once (Pair a b) f g x y =
      let s : Some x.0 ≡ Some y.0 = sym x.2 ∙ y.2 in let s' : x.0 ≡ y.0 = cc in
      let u : Some x.1 ≡ Some y.1 = sym x.3 ∙ y.3 in let u' : x.1 ≡ y.1 = cc in
      q.pair_once a b y.0.clause y.1.clause f g (subst (λ (z : Record). (PairConcludes order) a y.0.clause b z.clause f) u' (subst (λ (z : Record). (PairConcludes order) a z.clause b x.1.clause f) s' x.4)) y.4

  from_task : (t : Task) (k : ℕ) (found : List Conclusion) (c : Conclusion) → Concludes order (record_of w) t found → slice_get found k ≡ Some c → (me : ℕ) (o : Origin) (ss : List Step)
      → origin_eq (origin.Task t k) o ≡ true → FromOrigin order (record_of w) me o ss → BeginsWith c.step ss
  from_task t k found c con there me (origin.Input j) ss x f = absurd (let g : false ≡ true = x in cc)
  from_task t k found c con there me (origin.Rework m) ss x f = absurd (let g : false ≡ true = x in cc)
  from_task t k found c con there me (origin.Task u j) ss x f =
      let z = and_true (task_eq t u) (eqb k j) x in
      let same : u ≡ t = task_same t u z.0 in
      let kj : k ≡ j = eqb-true k j z.1 in
      let fs : f.found ≡ found = concludes_once t f.found found (subst (λ (v : Task). (Concludes order) (record_of w) v f.found) same f.concludes) con in
      let s : Some f.conclusion ≡ Some c = sym f.there ∙ ap (λ (xs : List Conclusion). slice_get xs j) fs ∙ ap (slice_get found) (sym kj) ∙ there in
      let s' : f.conclusion ≡ c = cc in
      subst (λ (v : Conclusion). BeginsWith v.step ss) s' f.begins

  done_right : (k : ℕ) → k < length w.locals → (t : Task) → done_times t (at w k) ≡ 1 → IsDone order p w (at w k) t
  done_right k l t one =
      let tr = i.truth.locals k l in
      let f = tally_place (λ d. task_eq t d.task) (at w k).done (omega (arith, one)) in
      let d = Each_at (TrueDone order (record_of w) (at w k).me) (at w k).done f.1 f.0 f.2 tr.done in
      let con : Concludes order (record_of w) t d.0 = subst (λ (v : Task). (Concludes order) (record_of w) v d.0) (task_same t f.0.task f.3) d.1 in
      record {
        found = d.0;
        concludes = con;
        counted = Each_weaker (TrueDone order (record_of w) (at w k).me) (λ e. task_eq t e.task ≡ true → e.conclusions ≡ length d.0)
            (λ e x y. x.2 ∙ ap length (concludes_once t x.0 d.0 (subst (λ (v : Task). (Concludes order) (record_of w) v x.0) (task_same t e.task y) x.1) con)) (at w k).done tr.done;
        kept = λ j c there. record {
          once = (let c' = (i.counted k l).conclusions t j in
              let room = get_below d.0 j c there in
              let few : ltb j f.0.conclusions ≡ true = (let e = d.2 in grind (arith, nat_tests, e, room)) in
              let has = tally_at (λ e. task_eq t e.task && ltb j e.conclusions) (at w k).done f.1 f.0 f.2 (rw (f.3, few) refl) in
              let most = tally_under (λ e. task_eq t e.task) (λ e. ltb j e.conclusions) (at w k).done in
              omega (arith, c', has, most, one));
          pending = Each_weaker (TrueItem order p (record_of w) (at w k).me) (λ x. origin_eq (origin.Task t j) x.origin ≡ true → BeginsWith c.step x.steps × Lead p (record_of w) None x.steps x.clause)
              (λ x y z. (from_task t j d.0 c con there (at w k).me x.origin x.steps z y.from_origin, y.leads)) (at w k).pending tr.pending;
          settled = Each_weaker (TrueSettled order p (record_of w) (at w k).me) (λ e. origin_eq (origin.Task t j) e.origin ≡ true → BeginsWith c.step e.steps × ((x : Clause) × Lead p (record_of w) None e.steps x × OutcomeHolds (record_of w) x e.outcome))
              (λ e y z. (from_task t j d.0 c con there (at w k).me e.origin e.steps z y.from_origin, (y.clause, y.leads, y.outcome))) (at w k).settled tr.settled;
        };
      }

  owed_or_done : (k : ℕ) → k < length w.locals → (t : Task) → owed_times t (at w k) + done_times t (at w k) ≡ 1 → OwedOrDone order p w (at w k) t
  owed_or_done k l t one = by (cases_lt 0 (owed_times t (at w k)))
    where
      by : (0 < owed_times t (at w k)) ⊎ (owed_times t (at w k) ≤ 0) → OwedOrDone order p w (at w k) t
      by (inl x) = inl (omega (arith, one, x), omega (arith, one, x))
      by (inr x) = inr (omega (arith, x), omega (arith, one, x), done_right k l t (omega (arith, one, x)))

  -- a live record that is known at its owner is held there
  live_held : (r : Record) → Genuine (record_of w) r → IsLive w r → known_times r.name (at w r.owner) ≡ 1 → (held_times r.name (at w r.owner) ≡ 1) × (unheld_times r.name (at w r.owner) ≡ 0)
  live_held r g l k =
      let o = record_once order q p policy w i r g r.owner (genuine_right order q p policy w i r g).in_range in
      let s = held_and_unheld r.name (at w r.owner).known in
      (omega (arith, o, s, l, k), omega (arith, o, s, l, k))

  owner_contradicts : (a : Record) → Genuine (record_of w) a → IsLive w a → (k : ℕ) → k < length w.locals → held_times a.name (at w k) ≡ 0 → 0 < known_times a.name (at w k) → a.owner ≡ k → ⊥
  owner_contradicts a g l k in' h some' o =
      let one : known_times a.name (at w a.owner) ≡ 1 = subst (λ (z : ℕ). known_times a.name (at w z) ≡ 1) (sym o) (let u = record_once order q p policy w i a g k in' in omega (arith, u, some')) in
      let m = live_held a g l one in
      let h' : held_times a.name (at w a.owner) ≡ 0 = subst (λ (z : ℕ). held_times a.name (at w z) ≡ 0) (sym o) h in
      omega (arith, m.0, h')

  told_of : (a : Record) → Genuine (record_of w) a → IsLive w a → (k : ℕ) → k < length w.locals → held_times a.name (at w k) ≡ 0 → 0 < known_times a.name (at w k)
      → (0 < tally (λ e. is_of a.name e && status_told e.status) (at w k).known) × (0 < tally (tells_to a.name a.owner) w.travelling + tally (tells a.name) (at w a.owner).waiting)
  told_of a g l k in' h some' =
      let hu = held_and_unheld a.name (at w k).known in
      let f = tally_place (λ e. is_of a.name e && not (is_held e)) (at w k).known (omega (arith, h, some', hu)) in
      let z = and_true (is_of a.name f.0) (not (is_held f.0)) f.3 in
      let t = entry_is order q p policy w i k in' a g f.1 f.0 f.2 z.0 in
      go f.0 t.1 f.0.status refl (not_true (is_held f.0) z.1) t.0.status (Each_at (HasTold w) (at w k).known f.1 f.0 f.2 (i.told k in'))
      (λ y. tally_at (λ e. is_of a.name e && status_told e.status) (at w k).known f.1 f.0 f.2 (rw (z.0, y) refl))
    where
      home : (e : Known) → e.entry ≡ a → e.entry.owner ≡ (at w k).me → ⊥
      home e same o = owner_contradicts a g l k in' h some' (ap (λ (r : Record). r.owner) (sym same) ∙ o ∙ (i.places k in').0)

      go : (e : Known) → e.entry ≡ a → (s : Status) → e.status ≡ s → is_held e ≡ false → TrueStatus order (record_of w) (at w k).me e.entry s → HasTold w e → (status_told e.status ≡ true → 0 < tally (λ e. is_of a.name e && status_told e.status) (at w k).known)
          → (0 < tally (λ e. is_of a.name e && status_told e.status) (at w k).known) × (0 < tally (tells_to a.name a.owner) w.travelling + tally (tells a.name) (at w a.owner).waiting)
      go e same Held y z t f c = absurd (let n : is_held e ≡ true = ap status_holds y in let no' : false ≡ true = sym z ∙ n in cc)
      go e same (Rework d) y z t f c = absurd (home e same t.0)
      go e same (Dropped d) y z t f c = absurd (home e same t.0)
      go e same (Told d) y z t f c =
          let heard' : 0 < heard w a.name a.owner = subst (λ (r : Record). 0 < heard w r.name r.owner) same (f (ap status_told y)) in
          let o = record_once order q p policy w i a g a.owner (genuine_right order q p policy w i a g).in_range in
          let s = held_and_unheld a.name (at w a.owner).known in
          (c (ap status_told y), omega (arith, heard', o, s, l))

  pub accounted_pair : (a b : Record) → Genuine (record_of w) a → Genuine (record_of w) b → IsLive w a → IsLive w b → AccountedPair order p w a b
  accounted_pair a b ga gb la lb = by (cases_lt 0 (known_times a.name (at w b.owner))) (cases_lt 0 (known_times b.name (at w b.owner)))
    where
      in' : b.owner < length w.locals
      in' = (genuine_right order q p policy w i b gb).in_range

      t : Task
      t = Pair a.name b.name

      both : 0 < known_times a.name (at w b.owner) → 0 < known_times b.name (at w b.owner) → OwedOrDone order p w (at w b.owner) t
          ⊎ ToldAway w a b.owner t
      both ka kb = pick (cases_lt 0 (held_times a.name (at w b.owner))) (cases_lt 0 (done_times t (at w b.owner)))
        where
          owes : OwesPair (at w b.owner) a.name b.name
          owes = i.pairs b.owner in' a.name b.name

          home : home_times b.name (at w b.owner) ≡ 1
          home =
              let ob = record_once order q p policy w i b gb b.owner in' in
              let hb = live_held b gb lb (omega (arith, ob, kb)) in
              home_is_held order p policy (length w.locals) (record_of w) (at w b.owner).me b gb (sym (i.places b.owner in').0) (at w b.owner).known (i.truth.locals b.owner in').known ∙ hb.0

          pick : (0 < held_times a.name (at w b.owner)) ⊎ (held_times a.name (at w b.owner) ≤ 0) → (0 < done_times t (at w b.owner)) ⊎ (done_times t (at w b.owner) ≤ 0) → OwedOrDone order p w (at w b.owner) t
              ⊎ ToldAway w a b.owner t
          pick (inl x) d =
              let oa = record_once order q p policy w i a ga b.owner in' in
              let s = held_and_unheld a.name (at w b.owner).known in
              inl (owed_or_done b.owner in' t (owes.both (omega (arith, x, s, oa)) home))
          pick (inr x) (inl d) =
              let e = owes.first (omega (arith, x)) in
              let o = owes.once in
              inl (owed_or_done b.owner in' t (omega (arith, e, o, d)))
          pick (inr x) (inr d) =
              let e = owes.first (omega (arith, x)) in
              let z = told_of a ga la b.owner in' (omega (arith, x)) ka in
              inr (record { owed = e; done = omega (arith, d); told = z.0; notice = z.1 })

      oa : known_times a.name (at w b.owner) + waiting_times a.name (at w b.owner) + travelling_times a.name b.owner w ≡ 1
      oa = record_once order q p policy w i a ga b.owner in'

      ob : known_times b.name (at w b.owner) + waiting_times b.name (at w b.owner) + travelling_times b.name b.owner w ≡ 1
      ob = record_once order q p policy w i b gb b.owner in'

      a_comes : known_times a.name (at w b.owner) ≡ 0 → Comes w a b.owner
      a_comes z = (z, omega (arith, z, oa))

      b_comes : known_times b.name (at w b.owner) ≡ 0 → Comes w b b.owner
      b_comes z = (z, omega (arith, z, ob))

      by : (0 < known_times a.name (at w b.owner)) ⊎ (known_times a.name (at w b.owner) ≤ 0) → (0 < known_times b.name (at w b.owner)) ⊎ (known_times b.name (at w b.owner) ≤ 0) → AccountedPair order p w a b
      by (inr x) y = inl (inl (a_comes (omega (arith, x))), a_comes, b_comes)
      by (inl x) (inr y) = inl (inr (b_comes (omega (arith, y))), a_comes, b_comes)
      by (inl x) (inl y) = inr (omega (arith, x, oa), omega (arith, y, ob), both x y)

  pub accounted_solo : (a : Record) → Genuine (record_of w) a → IsLive w a → AccountedSolo order p w a
  accounted_solo a ga la = by (cases_lt 0 (known_times a.name (at w a.owner)))
    where
      in' : a.owner < length w.locals
      in' = (genuine_right order q p policy w i a ga).in_range

      by : (0 < known_times a.name (at w a.owner)) ⊎ (known_times a.name (at w a.owner) ≤ 0) → AccountedSolo order p w a
      by (inr x) = let o = record_once order q p policy w i a ga a.owner in' in inl (omega (arith, x), omega (arith, o, x))
      by (inl x) =
          let oa = record_once order q p policy w i a ga a.owner in' in
          let ha = live_held a ga la (omega (arith, oa, x)) in
          let home : home_times a.name (at w a.owner) ≡ 1 = home_is_held order p policy (length w.locals) (record_of w) (at w a.owner).me a ga (sym (i.places a.owner in').0) (at w a.owner).known (i.truth.locals a.owner in').known ∙ ha.0 in
          inr (omega (arith, oa, x), owed_or_done a.owner in' (Solo a.name) ((i.solos a.owner in' a.name).both home home))

  -- no other peer has the task
  owner_of_task : (b : Record) → Genuine (record_of w) b → (k : ℕ) → k < length w.locals → k ≢ b.owner → home_times b.name (at w k) ≡ 0
  owner_of_task b gb k l ne = none (at w k).known (i.truth.locals k l).known
    where
      none : (es : List Known) → Each (TrueKnown order p policy (length w.locals) (record_of w) (at w k).me) es → tally (λ e. is_of b.name e && (is_held e && eqb e.entry.owner (at w k).me)) es ≡ 0
      none [] h = refl
      none (e ∷ es) h = go (is_of b.name e) (is_held e) (eqb e.entry.owner (at w k).me) refl refl (none es h.1)
        where
          go : (x y z : Bool) → is_of b.name e ≡ x → eqb e.entry.owner (at w k).me ≡ z → tally (λ e. is_of b.name e && (is_held e && eqb e.entry.owner (at w k).me)) es ≡ 0
              → cond (x && (y && z)) 1 0 + tally (λ e. is_of b.name e && (is_held e && eqb e.entry.owner (at w k).me)) es ≡ 0
          go true true true f g ih =
              let c : Some e.entry ≡ Some b = sym h.0.genuine ∙ ap (record_of w) (name_eq_true e.entry.name b.name f) ∙ gb in
              let c' : e.entry ≡ b = cc in
              absurd (ne (sym (ap (λ (r : Record). r.owner) (sym c') ∙ eqb-true _ _ g ∙ (i.places k l).0)))
          go true true false f g ih = omega (arith, ih)
          go true false z f g ih = omega (arith, ih)
          go false y z f g ih = omega (arith, ih)

  no_done : (t : Task) (b : Record) → Genuine (record_of w) b → (k : ℕ) → k < length w.locals → k ≢ b.owner → ((me : ℕ) → IsMine (record_of w) me t → b.owner ≡ me) → done_times t (at w k) ≡ 0
  no_done t b gb k l ne f = by (cases_lt 0 (done_times t (at w k)))
    where
      by : (0 < done_times t (at w k)) ⊎ (done_times t (at w k) ≤ 0) → done_times t (at w k) ≡ 0
      by (inr x) = omega (arith, x)
      by (inl x) =
          let g = tally_place (λ d. task_eq t d.task) (at w k).done x in
          let d = Each_at (TrueDone order (record_of w) (at w k).me) (at w k).done g.1 g.0 g.2 (i.truth.locals k l).done in
          absurd (ne (sym (f (at w k).me (subst (IsMine (record_of w) (at w k).me) (task_same t g.0.task g.3) d.3) ∙ (i.places k l).0)))

  pub pair_elsewhere : (a b : Record) → Genuine (record_of w) a → Genuine (record_of w) b → Elsewhere w b.owner (Pair a.name b.name)
  pair_elsewhere a b ga gb k l ne = (
    (i.pairs k l a.name b.name).second (owner_of_task b gb k l ne),
    no_done (Pair a.name b.name) b gb k l ne (λ me x. (let c : Some b ≡ Some x.0 = sym gb ∙ x.1 in let c' : b ≡ x.0 = cc in ap (λ (r : Record). r.owner) c' ∙ x.2)),
  )

  pub solo_elsewhere : (a : Record) → Genuine (record_of w) a → Elsewhere w a.owner (Solo a.name)
  solo_elsewhere a ga k l ne = (
    (i.solos k l a.name).second (owner_of_task a ga k l ne),
    no_done (Solo a.name) a ga k l ne (λ me x. (let c : Some a ≡ Some x.0 = sym ga ∙ x.1 in let c' : a ≡ x.0 = cc in ap (λ (r : Record). r.owner) c' ∙ x.2)),
  )

  -- one peer has no letters
  pub alone : length w.locals ≡ 1 → (w.travelling ≡ []) × ((at w 0).waiting ≡ [])
  alone one = (none w.travelling i.truth.travelling, none (at w 0).waiting (i.truth.locals 0 (omega (arith, one))).waiting)
    where
      none : (ls : List Letter) → Each (TrueLetter order p policy (length w.locals) (record_of w)) ls → ls ≡ []
      none [] h = refl
      none (l ∷ ls) h = absurd (h.0.other (let a = h.0.sender in let b = h.0.to_range in omega (arith, a, b, one)))
