-- Items and entries, counted by their origins.
use Rattle.std.proofs.Common.{◌≡◌, ℕ, ◌+◌, ◌≤◌, Bool, true, false, ◌&&◌, not, cond, eqb, ltb, List, [], ◌∷◌, ◌++◌, map, length, arith, refl, ap, sym, ◌∙◌, subst}
use Rattle.std.specs.Prelude.{slice_get, slice_set, remove, Option, Some, None}
use Rattle.std.proofs.lemmas.Bool.Decides.{nat_tests}
use Rattle.cd_names.specs.declared.How.TheVariants as how
use Rattle.cd_ledger.specs.declared.items.Origin.TheVariants as origin
use Rattle.cd_names.specs.declared.names.Name.{Name}
use Rattle.cd_names.specs.declared.How.{How}
use Rattle.cd_tasks.specs.declared.Task.{Task}
use Rattle.cd_ledger.specs.declared.items.Origin.{Origin}
use Rattle.cd_infer.specs.declared.Conclusion.{Conclusion}
use Rattle.cd_ledger.specs.declared.items.Item.{Item}
use Rattle.cd_ledger.specs.declared.records.Record.{Record}
use Rattle.cd_ledger.specs.declared.records.Status.{Status}
use Rattle.cd_ledger.specs.declared.records.Status.TheVariants.{Dropped, Held, Rework, Told}
use Rattle.cd_ledger.specs.declared.records.Known.{Known}
use Rattle.cd_ledger.specs.declared.items.Outcome.{Outcome}
use Rattle.cd_ledger.specs.declared.items.Settled.{Settled}
use Rattle.cd_ledger.specs.declared.local.Local.{Local}
use Rattle.cd_list.specs.Lists.{tally}
use Rattle.std.specs.List.{cons_option}
use Rattle.cd_names.specs.Names.{name_eq}
use Rattle.cd_ledger.specs.Records.{equations_of, is_of}
use Rattle.cd_ledger.specs.Statuses.{is_rework, status_holds, status_reworks}
use Rattle.cd_machine.specs.Contraction.{hit_on, loss, lost, lost_home, rework_item, rework_of, reworks, strike_one, struck, struck_by}
use Rattle.cd_machine.specs.Arrivals.{held, joined, shelved}
use Rattle.cd_machine.specs.Acts.{AreTaskItems, IsYield, Yield, resolution, resolve_one, resolved, settlement, taken, worked}
use Rattle.cd_machine.specs.Spread.{known_times}
use Rattle.cd_laws.specs.Sound.{IsCounted, is_ended, origin_eq, status_ends, task_eq}
use Rattle.cd_laws.proofs.Lists.{tally_append, tally_gather, tally_map, tally_none, tally_push, tally_put, tally_remove, tally_same, tally_set, tally_under}
use Rattle.cd_laws.proofs.Steps.{name_eq_true}
use Rattle.cd_laws.proofs.Strikes.{hit_held, loss_ends, resolution_ends, resolution_reworks, resolved_of, struck_tally}
use Rattle.cd_laws.proofs.Closure.{Keeps}
use Rattle.cd_kbo.specs.declared.order.Order.{Order}

name_eq_left : (a k m : Name) → name_eq a k ≡ true → name_eq a m ≡ name_eq k m
name_eq_left a k m h = ap (λ (n : Name). name_eq n m) (name_eq_true a k h)

name_eq_right : (a k m : Name) → name_eq k m ≡ true → name_eq a m ≡ name_eq a k
name_eq_right a k m h = ap (λ (n : Name). name_eq a n) (sym (name_eq_true k m h))

-- what a resolution does to reworks
resolve_reworks : (k m : Name) (st : Status) → status_reworks st ≡ false → (es : List Known)
    → tally (λ e. is_of m e && is_rework e) (map (resolve_one k st) es) ≡ cond (name_eq k m) 0 (tally (λ e. is_of m e && is_rework e) es)
resolve_reworks k m st n [] = elim (name_eq k m) as (λ b. ◌≡◌ {A = ℕ} 0 (cond b 0 0)) [ true ↦ refl | false ↦ refl ]
resolve_reworks k m st n (e ∷ es) = go (is_of k e) (is_rework e) (name_eq k m) refl refl refl (resolve_reworks k m st n es)
  where
    rest : ℕ
    rest = tally (λ e. is_of m e && is_rework e) (map (resolve_one k st) es)

    old : ℕ
    old = tally (λ e. is_of m e && is_rework e) es

    go : (x y b : Bool) → is_of k e ≡ x → is_rework e ≡ y → name_eq k m ≡ b → rest ≡ cond b 0 old
        → cond (is_of m (cond (x && y) (record e { status = st }) e) && is_rework (cond (x && y) (record e { status = st }) e)) 1 0 + rest
        ≡ cond b 0 (cond (is_of m e && y) 1 0 + old)
    go true true true hx hy hb ih = rw (n, ih) (elim (is_of m e) as (λ c. ◌≡◌ {A = ℕ} (cond (c && false) 1 0 + 0) 0) [ true ↦ refl | false ↦ refl ])
    go true true false hx hy hb ih =
        let f : is_of m e ≡ false = name_eq_left e.entry.name k m hx ∙ hb in
        rw (n, f, ih) refl
    go true false true hx hy hb ih = rw (hy, ih) (elim (is_of m e) as (λ c. ◌≡◌ {A = ℕ} (cond (c && false) 1 0 + 0) 0) [ true ↦ refl | false ↦ refl ])
    go true false false hx hy hb ih = rw (hy, ih) refl
    go false y true hx hy hb ih =
        let f : is_of m e ≡ false = name_eq_right e.entry.name k m hb ∙ hx in
        rw (f, ih) refl
    go false y false hx hy hb ih = rw (hy, ih) refl

ends_or_reworks : (s : Status) → status_reworks s ≡ true → status_ends s ≡ false
ends_or_reworks Held h = refl
ends_or_reworks (Rework d) h = refl
ends_or_reworks (Dropped r) h = cc
ends_or_reworks (Told d) h = refl

resolve_ended : (k m : Name) (st : Status) → status_ends st ≡ true → (es : List Known)
    → tally (λ e. is_of m e && is_ended e) (map (resolve_one k st) es) ≡ tally (λ e. is_of m e && is_ended e) es + cond (name_eq k m) (tally (λ e. is_of m e && is_rework e) es) 0
resolve_ended k m st n [] = elim (name_eq k m) as (λ b. ◌≡◌ {A = ℕ} 0 (0 + cond b 0 0)) [ true ↦ refl | false ↦ refl ]
resolve_ended k m st n (e ∷ es) = go (is_of k e) (is_rework e) (name_eq k m) refl refl refl (resolve_ended k m st n es)
  where
    rest : ℕ
    rest = tally (λ e. is_of m e && is_ended e) (map (resolve_one k st) es)

    old : ℕ
    old = tally (λ e. is_of m e && is_ended e) es

    more : ℕ
    more = tally (λ e. is_of m e && is_rework e) es

    go : (x y b : Bool) → is_of k e ≡ x → is_rework e ≡ y → name_eq k m ≡ b → rest ≡ old + cond b more 0
        → cond (is_of m (cond (x && y) (record e { status = st }) e) && is_ended (cond (x && y) (record e { status = st }) e)) 1 0 + rest
        ≡ (cond (is_of m e && is_ended e) 1 0 + old) + cond b (cond (is_of m e && y) 1 0 + more) 0
    go true true true hx hy hb ih = rw (n, ends_or_reworks e.status hy) (elim (is_of m e) as (λ c. cond (c && true) 1 0 + rest ≡ (cond (c && false) 1 0 + old) + (cond (c && true) 1 0 + more)) [ true ↦ omega (arith, ih) | false ↦ omega (arith, ih) ])
    go true true false hx hy hb ih =
        let f : is_of m e ≡ false = name_eq_left e.entry.name k m hx ∙ hb in
        rw f (omega (arith, ih))
    go true false true hx hy hb ih = elim (is_of m e) as (λ c. cond (c && is_ended e) 1 0 + rest ≡ (cond (c && is_ended e) 1 0 + old) + (cond (c && false) 1 0 + more)) [ true ↦ omega (arith, ih) | false ↦ omega (arith, ih) ]
    go true false false hx hy hb ih = omega (arith, ih)
    go false y true hx hy hb ih =
        let f : is_of m e ≡ false = name_eq_right e.entry.name k m hb ∙ hx in
        rw f (omega (arith, ih))
    go false y false hx hy hb ih = omega (arith, ih)

held_no_rework : (s : Status) → status_holds s ≡ true → (status_reworks s ≡ false) × (status_ends s ≡ false)
held_no_rework Held h = (refl, refl)
held_no_rework (Rework d) h = cc
held_no_rework (Dropped r) h = cc
held_no_rework (Told d) h = cc

-- a loss by reduction at home is an item
loss_item : (m : Name) (me : ℕ) (d : Name) (w : How) (r : Record)
    → cond (name_eq r.name m && status_reworks (loss me d w r)) 1 0 ≡ tally (λ i. origin_eq (origin.Rework m) i.origin) (cons_option (rework_of me d r (Some w)) [])
loss_item m me d how.Subsumes r = go (eqb r.owner me)
  where
    go : (b : Bool) → ◌≡◌ {A = ℕ} (cond (name_eq r.name m && status_reworks (cond b (lost_home how.Subsumes d) (Told d))) 1 0) 0
    go true = elim (name_eq r.name m) as (λ c. ◌≡◌ {A = ℕ} (cond (c && false) 1 0) 0) [ true ↦ refl | false ↦ refl ]
    go false = elim (name_eq r.name m) as (λ c. ◌≡◌ {A = ℕ} (cond (c && false) 1 0) 0) [ true ↦ refl | false ↦ refl ]
loss_item m me d how.Reduces r = go (eqb r.owner me)
  where
    go : (b : Bool) → cond (name_eq r.name m && status_reworks (cond b (lost_home how.Reduces d) (Told d))) 1 0 ≡ tally (λ i. origin_eq (origin.Rework m) i.origin) (cons_option (cond b (Some (rework_item d r)) None) [])
    go true = elim (name_eq r.name m) as (λ c. ◌≡◌ {A = ℕ} (cond (c && true) 1 0) (cond c 1 0 + 0)) [ true ↦ refl | false ↦ refl ]
    go false = elim (name_eq r.name m) as (λ c. ◌≡◌ {A = ℕ} (cond (c && false) 1 0) 0) [ true ↦ refl | false ↦ refl ]

struck_reworks : (m : Name) (me : ℕ) (hit : Known → Option How) (d : Name) (es : List Known)
    → tally (λ e. is_of m e && is_rework e) (struck me hit d es) ≡ tally (λ e. is_of m e && is_rework e) es + tally (λ i. origin_eq (origin.Rework m) i.origin) (reworks me hit d es)
struck_reworks m me hit d [] = refl
struck_reworks m me hit d (e ∷ es) = go (hit_on hit e) refl (struck_reworks m me hit d es) (tally_put (λ i. origin_eq (origin.Rework m) i.origin) (rework_of me d e.entry (hit_on hit e)) (reworks me hit d es))
  where
    go : (o : Option How) → hit_on hit e ≡ o
        → tally (λ e. is_of m e && is_rework e) (struck me hit d es) ≡ tally (λ e. is_of m e && is_rework e) es + tally (λ i. origin_eq (origin.Rework m) i.origin) (reworks me hit d es)
        → tally (λ i. origin_eq (origin.Rework m) i.origin) (cons_option (rework_of me d e.entry o) (reworks me hit d es))
        ≡ tally (λ i. origin_eq (origin.Rework m) i.origin) (cons_option (rework_of me d e.entry o) []) + tally (λ i. origin_eq (origin.Rework m) i.origin) (reworks me hit d es)
        → cond (is_of m (struck_by me d e o) && is_rework (struck_by me d e o)) 1 0 + tally (λ e. is_of m e && is_rework e) (struck me hit d es)
        ≡ (cond (is_of m e && is_rework e) 1 0 + tally (λ e. is_of m e && is_rework e) es) + tally (λ i. origin_eq (origin.Rework m) i.origin) (cons_option (rework_of me d e.entry o) (reworks me hit d es))
    go None x ih pt = omega (arith, ih)
    go (Some w) x ih pt =
        let no' : is_rework e ≡ false = (held_no_rework e.status (hit_held hit e w x)).0 in
        let z : ◌≡◌ {A = ℕ} (cond (is_of m e && is_rework e) 1 0) 0 = rw no' (elim (is_of m e) as (λ c. ◌≡◌ {A = ℕ} (cond (c && false) 1 0) 0) [ true ↦ refl | false ↦ refl ]) in
        let item = loss_item m me d w e.entry in
        omega (arith, ih, pt, z, item)

struck_ended : (m : Name) (me : ℕ) (hit : Known → Option How) (d : Name) (es : List Known)
    → tally (λ e. is_of m e && is_ended e) (struck me hit d es) ≡ tally (λ e. is_of m e && is_ended e) es
struck_ended m me hit d es = tally_map (λ e. is_of m e && is_ended e) (strike_one me hit d) es ∙ tally_same (λ e. is_of m (strike_one me hit d e) && is_ended (strike_one me hit d e)) (λ e. is_of m e && is_ended e) (λ e. go e (hit_on hit e) refl) es
  where
    go : (e : Known) (o : Option How) → hit_on hit e ≡ o → (is_of m (struck_by me d e o) && is_ended (struck_by me d e o)) ≡ (is_of m e && is_ended e)
    go e None x = refl
    go e (Some w) x = rw ((held_no_rework e.status (hit_held hit e w x)).1, loss_ends me d w e.entry) refl

-- reworks are no inputs and no conclusions
rework_none : (t : Origin → Bool) → ((n : Name) → t (origin.Rework n) ≡ false) → (me : ℕ) (d : Name) (r : Record) (o : Option How) → tally (λ i. t i.origin) (cons_option (rework_of me d r o) []) ≡ 0
rework_none t f me d r None = refl
rework_none t f me d r (Some how.Subsumes) = refl
rework_none t f me d r (Some how.Reduces) = elim (eqb r.owner me) as (λ b. tally (λ i. t i.origin) (cons_option (cond b (Some (rework_item d r)) None) []) ≡ 0) [ true ↦ rw (f r.name) refl | false ↦ refl ]

reworks_none : (t : Origin → Bool) → ((n : Name) → t (origin.Rework n) ≡ false) → (me : ℕ) (hit : Known → Option How) (d : Name) (es : List Known) → tally (λ i. t i.origin) (reworks me hit d es) ≡ 0
reworks_none t f me hit d es =
    tally_gather (λ i. t i.origin) (λ e. rework_of me d e.entry (hit_on hit e)) (λ e. false) (λ e. rework_none t f me d e.entry (hit_on hit e)) es
    ∙ tally_none (λ e. false) (λ e. refl) es

-- the items of a task
task_items_none : (t : Origin → Bool) (task : Task) → ((j : ℕ) → t (origin.Task task j) ≡ false) → (m : ℕ) (cs : List Conclusion) (items : List Item) → AreTaskItems task m cs items → tally (λ i. t i.origin) items ≡ 0
task_items_none t task f m [] items are = rw are refl
task_items_none t task f m (c ∷ cs) items are =
    let no' : t are.0.origin ≡ false = ap t are.2.0 ∙ f m in
    let ih = task_items_none t task f (m + 1) cs are.1 are.3 in
    rw are.4 (rw no' (omega (arith, ih)))

task_items_count : (t : Task) (k : ℕ) (task : Task) (m : ℕ) (cs : List Conclusion) (items : List Item) → AreTaskItems task m cs items
    → tally (λ i. origin_eq (origin.Task t k) i.origin) items ≡ cond (task_eq t task && (not (ltb k m) && ltb k (m + length cs))) 1 0
task_items_count t k task m [] items are = rw are (elim (task_eq t task) as (λ b. ◌≡◌ {A = ℕ} 0 (cond (b && (not (ltb k m) && ltb k (m + 0))) 1 0)) [ true ↦ grind (arith, nat_tests) | false ↦ refl ])
task_items_count t k task m (c ∷ cs) items are =
    let e : origin_eq (origin.Task t k) are.0.origin ≡ (task_eq t task && eqb k m) = ap (origin_eq (origin.Task t k)) are.2.0 in
    let ih = task_items_count t k task (m + 1) cs are.1 are.3 in
    let len : length (c ∷ cs) ≡ 1 + length cs = omega arith in
    rw are.4 (rw (e, ih) (elim (task_eq t task) as (λ b. cond (b && eqb k m) 1 0 + cond (b && (not (ltb k (m + 1)) && ltb k (m + 1 + length cs))) 1 0 ≡ cond (b && (not (ltb k m) && ltb k (m + length (c ∷ cs)))) 1 0)
    [ true ↦ grind (arith, nat_tests, len) | false ↦ refl ]))

-- the origin of a taken item
taken_reworks : (m : Name) (o : Origin) (st : Status) → status_reworks st ≡ false → (es : List Known) (before after : ℕ)
    → before ≡ after + cond (origin_eq (origin.Rework m) o) 1 0 → before ≡ tally (λ e. is_of m e && is_rework e) es → before ≤ 1 → after ≡ tally (λ e. is_of m e && is_rework e) (resolved o st es)
taken_reworks m (origin.Input k) st n es b a h g few = omega (arith, h, g)
taken_reworks m (origin.Task t k) st n es b a h g few = omega (arith, h, g)
taken_reworks m (origin.Rework k) st n es b a h g few = go (name_eq k m) refl (resolve_reworks k m st n es) h
  where
    go : (c : Bool) → name_eq k m ≡ c → tally (λ e. is_of m e && is_rework e) (map (resolve_one k st) es) ≡ cond c 0 (tally (λ e. is_of m e && is_rework e) es) → b ≡ a + cond c 1 0
        → a ≡ tally (λ e. is_of m e && is_rework e) (map (resolve_one k st) es)
    go true x e h = omega (arith, e, h, few)
    go false x e h = omega (arith, e, h, g)

taken_ended : (m : Name) (o : Origin) (st : Status) → status_ends st ≡ true → (es : List Known) (pending before : ℕ)
    → before ≡ tally (λ e. is_of m e && is_ended e) es → pending ≡ tally (λ e. is_of m e && is_rework e) es → pending ≤ 1 → cond (origin_eq (origin.Rework m) o) 1 0 ≤ pending
    → before + cond (origin_eq (origin.Rework m) o) 1 0 ≡ tally (λ e. is_of m e && is_ended e) (resolved o st es)
taken_ended m (origin.Input k) st n es pe b h g few some' = omega (arith, h)
taken_ended m (origin.Task t k) st n es pe b h g few some' = omega (arith, h)
taken_ended m (origin.Rework k) st n es pe b h g few some' = go (name_eq k m) some' (resolve_ended k m st n es)
  where
    go : (c : Bool) → cond c 1 0 ≤ pe → tally (λ e. is_of m e && is_ended e) (map (resolve_one k st) es) ≡ tally (λ e. is_of m e && is_ended e) es + cond c (tally (λ e. is_of m e && is_rework e) es) 0
        → b + cond c 1 0 ≡ tally (λ e. is_of m e && is_ended e) (map (resolve_one k st) es)
    go true s e = omega (arith, e, h, g, few, s)
    go false s e = omega (arith, e, h)

pub few_reworks : (m : Name) (es : List Known) → tally (is_of m) es ≤ 1 → tally (λ e. is_of m e && is_rework e) es ≤ 1
few_reworks m es h = let u = tally_under (is_of m) is_rework es in omega (arith, u, h)

module _ (order : Order) (c n : ℕ) where
  counted_taken : (s : Local) (place : ℕ) (i : Item) (o : Outcome) → slice_get s.pending place ≡ Some i → IsCounted c n s → IsCounted c n (taken s place i o)
  counted_taken s place i o there h =
      let st = resolution o (equations_of i.steps) in
      let out : (p : Item → Bool) → tally p s.pending ≡ tally p (remove s.pending place) + cond (p i) 1 0 = λ p. tally_remove p s.pending place i there in
      let put' : (p : Settled → Bool) → tally p (s.settled ++ settlement i o ∷ []) ≡ tally p s.settled + cond (p (settlement i o)) 1 0 = λ p. tally_push p s.settled (settlement i o) in
      record {
        once = λ m. (let e = resolved_of m i.origin st s.known in let f = h.once m in omega (arith, e, f));
        reworks = λ m. taken_reworks m i.origin st (resolution_reworks o (equations_of i.steps)) s.known _ _ (out (λ x. origin_eq (origin.Rework m) x.origin)) (h.reworks m)
            (let r = h.reworks m in let f = few_reworks m s.known (h.once m) in omega (arith, r, f));
        ended = λ m. (let a = put' (λ x. origin_eq (origin.Rework m) x.origin) in
            let b = taken_ended m i.origin st (resolution_ends o (equations_of i.steps)) s.known _ _ (h.ended m) (h.reworks m) (let r = h.reworks m in let f = few_reworks m s.known (h.once m) in omega (arith, r, f))
            (let r = out (λ x. origin_eq (origin.Rework m) x.origin) in omega (arith, r)) in a ∙ b);
        inputs = λ k. (let a = out (λ x. origin_eq (origin.Input k) x.origin) in let b = put' (λ x. origin_eq (origin.Input k) x.origin) in let g = h.inputs k in omega (arith, a, b, g));
        conclusions = λ t k. (let a = out (λ x. origin_eq (origin.Task t k) x.origin) in let b = put' (λ x. origin_eq (origin.Task t k) x.origin) in let g = h.conclusions t k in omega (arith, a, b, g));
      }

  counted_lost : (s : Local) (hit : Known → Option How) (d : Name) → IsCounted c n s → IsCounted c n (lost s hit d)
  counted_lost s hit d h =
      let app : (p : Item → Bool) → tally p (s.pending ++ reworks s.me hit d s.known) ≡ tally p s.pending + tally p (reworks s.me hit d s.known) = λ p. tally_append p s.pending (reworks s.me hit d s.known) in
      record {
        once = λ m. (let e = struck_tally m s.me hit d s.known in let f = h.once m in omega (arith, e, f));
        reworks = λ m. (let a = app (λ x. origin_eq (origin.Rework m) x.origin) in let b = struck_reworks m s.me hit d s.known in let g = h.reworks m in omega (arith, a, b, g));
        ended = λ m. h.ended m ∙ sym (struck_ended m s.me hit d s.known);
        inputs = λ k. (let a = app (λ x. origin_eq (origin.Input k) x.origin) in let b = reworks_none (origin_eq (origin.Input k)) (λ m. refl) s.me hit d s.known in let g = h.inputs k in omega (arith, a, b, g));
        conclusions = λ t k. (let a = app (λ x. origin_eq (origin.Task t k) x.origin) in let b = reworks_none (origin_eq (origin.Task t k)) (λ m. refl) s.me hit d s.known in let g = h.conclusions t k in omega (arith, a, b, g));
      }

  fresh_once : (m : Name) (s : Local) (e : Known) → tally (is_of e.entry.name) s.known ≡ 0 → tally (is_of m) s.known ≤ 1 → tally (is_of m) (s.known ++ e ∷ []) ≤ 1
  fresh_once m s e fresh few = go (name_eq e.entry.name m) refl (tally_push (is_of m) s.known e)
    where
      go : (b : Bool) → name_eq e.entry.name m ≡ b → tally (is_of m) (s.known ++ e ∷ []) ≡ tally (is_of m) s.known + cond b 1 0 → tally (is_of m) (s.known ++ e ∷ []) ≤ 1
      go true x y = let z : tally (is_of m) s.known ≡ 0 = subst (λ (k : Name). tally (is_of k) s.known ≡ 0) (name_eq_true e.entry.name m x) fresh in omega (arith, y, z)
      go false x y = omega (arith, y, few)

  and_no : (b : Bool) → (b && false) ≡ false
  and_no true = refl
  and_no false = refl

  counted_joined : (s : Local) (r : Record) → known_times r.name s ≡ 0 → IsCounted c n s → IsCounted c n (joined s r)
  counted_joined s r fresh h = record {
    once = λ m. fresh_once m s (held r) fresh (h.once m);
    reworks = λ m. (let a = tally_push (λ e. is_of m e && is_rework e) s.known (held r) in let b = ap {B = ℕ} (λ (x : Bool). cond x 1 0) (and_no (name_eq r.name m)) in let g = h.reworks m in omega (arith, a, b, g));
    ended = λ m. (let a = tally_push (λ e. is_of m e && is_ended e) s.known (held r) in let b = ap {B = ℕ} (λ (x : Bool). cond x 1 0) (and_no (name_eq r.name m)) in let g = h.ended m in omega (arith, a, b, g));
    inputs = h.inputs;
    conclusions = h.conclusions;
  }

  counted_shelved : (s : Local) (r : Record) (d : Name) (w : How) → known_times r.name s ≡ 0 → IsCounted c n s → IsCounted c n (shelved s r d w)
  counted_shelved s r d w fresh h =
      let x : Known = record { entry = r; status = loss s.me d w r } in
      let app : (p : Item → Bool) → tally p (s.pending ++ cons_option (rework_of s.me d r (Some w)) []) ≡ tally p s.pending + tally p (cons_option (rework_of s.me d r (Some w)) []) = λ p. tally_append p s.pending (cons_option (rework_of s.me d r (Some w)) []) in
      record {
        once = λ m. fresh_once m s x fresh (h.once m);
        reworks = λ m. (let a = tally_push (λ e. is_of m e && is_rework e) s.known x in let b = loss_item m s.me d w r in let e = app (λ y. origin_eq (origin.Rework m) y.origin) in let g = h.reworks m in omega (arith, a, b, e, g));
        ended = λ m. (let a = tally_push (λ e. is_of m e && is_ended e) s.known x in let b : ◌≡◌ {A = ℕ} (cond (name_eq r.name m && status_ends (loss s.me d w r)) 1 0) 0 = rw (loss_ends s.me d w r) (ap {B = ℕ} (λ (y : Bool). cond y 1 0) (and_no (name_eq r.name m))) in let g = h.ended m in omega (arith, a, b, g));
        inputs = λ k. (let a = app (λ y. origin_eq (origin.Input k) y.origin) in let b = rework_none (origin_eq (origin.Input k)) (λ m. refl) s.me d r (Some w) in let g = h.inputs k in omega (arith, a, b, g));
        conclusions = λ t k. (let a = app (λ y. origin_eq (origin.Task t k) y.origin) in let b = rework_none (origin_eq (origin.Task t k)) (λ m. refl) s.me d r (Some w) in let g = h.conclusions t k in omega (arith, a, b, g));
      }

  counted_replaced : (s : Local) (place : ℕ) (i j : Item) → slice_get s.pending place ≡ Some i → j.origin ≡ i.origin → IsCounted c n s → IsCounted c n (record s { pending = slice_set s.pending place j })
  counted_replaced s place i j there same h =
      let eq : (o : Origin) → tally (λ x. origin_eq o x.origin) (slice_set s.pending place j) ≡ tally (λ x. origin_eq o x.origin) s.pending = λ o. tally_set (λ x. origin_eq o x.origin) s.pending place i j there (ap (origin_eq o) same) in
      record {
        once = h.once;
        reworks = λ m. eq (origin.Rework m) ∙ h.reworks m;
        ended = h.ended;
        inputs = λ k. (let a = eq (origin.Input k) in let g = h.inputs k in omega (arith, a, g));
        conclusions = λ t k. (let a = eq (origin.Task t k) in let g = h.conclusions t k in omega (arith, a, g));
      }

  counted_worked : (s : Local) (task : Task) (y : Yield) → IsYield order s task y → IsCounted c n s → IsCounted c n (worked s task y)
  counted_worked s task y is h =
      let app : (p : Item → Bool) → tally p (s.pending ++ y.items) ≡ tally p s.pending + tally p y.items = λ p. tally_append p s.pending y.items in
      record {
        once = h.once;
        reworks = λ m. (let a = app (λ x. origin_eq (origin.Rework m) x.origin) in let b = task_items_none (origin_eq (origin.Rework m)) task (λ j. refl) 0 y.found y.items is.items in let g = h.reworks m in omega (arith, a, b, g));
        ended = h.ended;
        inputs = λ k. (let a = app (λ x. origin_eq (origin.Input k) x.origin) in let b = task_items_none (origin_eq (origin.Input k)) task (λ j. refl) 0 y.found y.items is.items in let g = h.inputs k in omega (arith, a, b, g));
        conclusions = λ t k. (let a = app (λ x. origin_eq (origin.Task t k) x.origin) in let b = task_items_count t k task 0 y.found y.items is.items in let g = h.conclusions t k in
            let d = tally_push (λ d. task_eq t d.task && ltb k d.conclusions) s.done (record { task = task; conclusions = length y.found }) in
            let z : not (ltb k 0) ≡ true = grind (arith, nat_tests) in
            let l0 : 0 + length y.found ≡ length y.found = omega arith in
            let b' : tally (λ x. origin_eq (origin.Task t k) x.origin) y.items ≡ cond (task_eq t task && ltb k (length y.found)) 1 0 = b ∙ rw (z, l0) refl in
            omega (arith, a, b', g, d));
      }

  pub counted_keeps : Keeps order (IsCounted c n)
  counted_keeps = record {
    frame = λ s w t x k u l v j h. record { once = h.once; reworks = h.reworks; ended = h.ended; inputs = h.inputs; conclusions = h.conclusions };
    taken = counted_taken;
    lost = counted_lost;
    joined = λ s r fresh calm h. counted_joined s r fresh h;
    shelved = counted_shelved;
    replaced = counted_replaced;
    worked = counted_worked;
  }
