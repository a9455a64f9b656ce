-- The status of what was reworked is that of its entry.
use Rattle.std.proofs.Common.{◌≡◌, ℕ, zero, suc, ◌+◌, ◌<◌, ◌≤◌, Bool, true, false, ◌&&◌, cond, List, [], ◌∷◌, ◌++◌, map, arith, refl, ap, sym, ◌∙◌, subst}
use Rattle.std.specs.Prelude.{slice_get, remove, Option, Some, None}
use Rattle.cd_ledger.specs.declared.items.Origin.TheVariants as origin
use Rattle.cd_names.specs.declared.names.Name.{Name}
use Rattle.cd_names.specs.declared.How.{How}
use Rattle.cd_ledger.specs.declared.items.Origin.{Origin}
use Rattle.cd_ledger.specs.declared.records.Record.{Record}
use Rattle.cd_ledger.specs.declared.records.Status.{Status}
use Rattle.cd_ledger.specs.declared.records.Status.TheVariants.{Dropped, Held, Rework, Told}
use Rattle.cd_ledger.specs.declared.records.Known.{Known}
use Rattle.cd_ledger.specs.declared.items.Settled.{Settled}
use Rattle.cd_ledger.specs.declared.local.Local.{Local}
use Rattle.cd_list.specs.Lists.{tally}
use Rattle.std.specs.List.{AllByRecursion as Each}
use Rattle.cd_names.specs.Names.{name_eq}
use Rattle.cd_ledger.specs.Records.{equations_of, is_of}
use Rattle.cd_ledger.specs.Statuses.{is_rework, status_holds, status_reworks}
use Rattle.cd_machine.specs.Contraction.{hit_on, loss, lost, strike_one, struck_by}
use Rattle.cd_machine.specs.Arrivals.{held}
use Rattle.cd_machine.specs.Acts.{resolution, resolve_one, resolved, settlement, taken}
use Rattle.cd_laws.specs.Sound.{IsCounted, Linked, StatusIs, is_ended, origin_eq, status_ends}
use Rattle.cd_laws.proofs.Lists.{Each_at, Each_map, Each_push, Each_weaker, tally_remove, tally_under}
use Rattle.cd_laws.proofs.Steps.{name_eq_refl, name_eq_true}
use Rattle.cd_laws.proofs.Strikes.{hit_held, resolution_ends, resolve_entry, strike_entry}
use Rattle.cd_laws.proofs.Closure.{Keeps}
use Rattle.cd_laws.proofs.Tallies.{counted_keeps}
use Rattle.cd_kbo.specs.declared.order.Order.{Order}

-- where the list has no more of one kind than of a part of it, all of the kind are of the part
all_part : {A : Type 0} (t u : A → Bool) (xs : List A) → tally t xs ≤ tally (λ x. t x && u x) xs → Each (λ x. t x ≡ true → u x ≡ true) xs
all_part t u [] h = tt
all_part t u (x ∷ xs) h = go (t x) (u x) refl refl h (tally_under t u xs) (all_part t u xs)
  where
    go : (a b : Bool) → t x ≡ a → u x ≡ b → cond a 1 0 + tally t xs ≤ cond (a && b) 1 0 + tally (λ x. t x && u x) xs → tally (λ x. t x && u x) xs ≤ tally t xs
        → (tally t xs ≤ tally (λ x. t x && u x) xs → Each (λ x. t x ≡ true → u x ≡ true) xs) → (t x ≡ true → u x ≡ true) × Each (λ x. t x ≡ true → u x ≡ true) xs
    go true true e f h l r = ((λ z. f), r (omega (arith, h)))
    go true false e f h l r = absurd (omega (arith, h, l))
    go false b e f h l r = ((λ z. absurd (let k : false ≡ true = sym e ∙ z in cc)), r (omega (arith, h)))

no_rework_end : (st : Status) → status_ends st ≡ true → (status_reworks st ≡ false) × (status_holds st ≡ false)
no_rework_end Held h = absurd (let f : false ≡ true = h in cc)
no_rework_end (Rework d) h = absurd (let f : false ≡ true = h in cc)
no_rework_end (Dropped r) h = (refl, refl)
no_rework_end (Told d) h = absurd (let f : false ≡ true = h in cc)

-- an ended entry is changed by nothing
status_map : (f : Known → Known) → ((e : Known) → (f e).entry ≡ e.entry) → ((e : Known) → is_ended e ≡ true → (f e).status ≡ e.status) → (o : Origin) (st : Status) → status_ends st ≡ true → (es : List Known) → StatusIs es o st → StatusIs (map f es) o st
status_map f entry same (origin.Input k) st ends es h = tt
status_map f entry same (origin.Task t k) st ends es h = tt
status_map f entry same (origin.Rework n) st ends es h =
    Each_map (λ e. is_of n e ≡ true → e.status ≡ st) f es (Each_weaker (λ e. is_of n e ≡ true → e.status ≡ st) (λ e. is_of n (f e) ≡ true → (f e).status ≡ st)
    (λ e g x. (let y = g (sym (ap (λ (r : Record). name_eq r.name n) (entry e)) ∙ x) in same e (ap status_ends y ∙ ends) ∙ y)) es h)

strike_ended : (me : ℕ) (hit : Known → Option How) (d : Name) (e : Known) → is_ended e ≡ true → (strike_one me hit d e).status ≡ e.status
strike_ended me hit d e h = go (hit_on hit e) refl
  where
    go : (o : Option How) → hit_on hit e ≡ o → (struck_by me d e o).status ≡ e.status
    go None x = refl
    go (Some w) x = absurd (let a = hit_held hit e w x in let b : false ≡ true = sym (no_rework_end e.status h).1 ∙ a in cc)

resolve_end : (n : Name) (st : Status) (e : Known) → is_ended e ≡ true → (resolve_one n st e).status ≡ e.status
resolve_end n st e h = go (is_of n e) (is_rework e) refl
  where
    go : (a b : Bool) → is_rework e ≡ b → (cond (a && b) (record e { status = st }) e).status ≡ e.status
    go true true x = absurd (let f : false ≡ true = sym (no_rework_end e.status h).0 ∙ x in cc)
    go true false x = refl
    go false b x = refl

status_resolved : (g : Origin) (s' : Status) (o : Origin) (st : Status) → status_ends st ≡ true → (es : List Known) → StatusIs es o st → StatusIs (resolved g s' es) o st
status_resolved (origin.Input k) s' o st ends es h = h
status_resolved (origin.Task t k) s' o st ends es h = h
status_resolved (origin.Rework m) s' o st ends es h = status_map (resolve_one m s') (resolve_entry m s') (resolve_end m s') o st ends es h

status_push : (o : Origin) (st : Status) (es : List Known) (e : Known) → ((n : Name) → o ≡ origin.Rework n → 0 < tally (is_of n) es) → tally (is_of e.entry.name) es ≡ 0 → StatusIs es o st → StatusIs (es ++ e ∷ []) o st
status_push (origin.Input k) st es e some' fresh h = tt
status_push (origin.Task t k) st es e some' fresh h = tt
status_push (origin.Rework n) st es e some' fresh h = Each_push (λ x. is_of n x ≡ true → x.status ≡ st) es e h
    (λ x. absurd (let a = some' n refl in let b : tally (is_of n) es ≡ 0 = subst (λ (m : Name). tally (is_of m) es ≡ 0) (name_eq_true e.entry.name n x) fresh in omega (arith, a, b)))

-- the entry of the item that is taken
status_new : (o : Origin) (st : Status) (es : List Known) → ((n : Name) → o ≡ origin.Rework n → tally (is_of n) es ≤ tally (λ e. is_of n e && is_rework e) es) → StatusIs (resolved o st es) o st
status_new (origin.Input k) st es h = tt
status_new (origin.Task t k) st es h = tt
status_new (origin.Rework n) st es h = Each_map (λ e. is_of n e ≡ true → e.status ≡ st) (resolve_one n st) es
    (Each_weaker (λ e. is_of n e ≡ true → is_rework e ≡ true) (λ e. is_of n (resolve_one n st e) ≡ true → (resolve_one n st e).status ≡ st)
    (λ e g x. (let y = sym (ap (λ (r : Record). name_eq r.name n) (resolve_entry n st e)) ∙ x in go e (is_of n e) (is_rework e) y (g y))) es (all_part (is_of n) is_rework es (h n refl)))
  where
    go : (e : Known) (a b : Bool) → a ≡ true → b ≡ true → (cond (a && b) (record e { status = st }) e).status ≡ st
    go e true true x y = refl
    go e true false x y = absurd cc
    go e false b x y = absurd cc

origin_self : (n : Name) → origin_eq (origin.Rework n) (origin.Rework n) ≡ true
origin_self n = name_eq_refl n

abbrev pub IsLinked : (c n : ℕ) → Local → Type 0
IsLinked c n s = IsCounted c n s × Each (Linked s.known) s.settled

module _ (order : Order) (c n : ℕ) where
  counts : Keeps order (IsCounted c n)
  counts = counted_keeps order c n

  -- an entry's reworked name is known
  known_entries : (s : Local) → IsCounted c n s → Each (Linked s.known) s.settled → Each (λ x. Linked s.known x × ((m : Name) → x.origin ≡ origin.Rework m → 0 < tally (is_of m) s.known)) s.settled
  known_entries s h l = each_place s.settled (λ k x there. (
    Each_at (Linked s.known) s.settled k x there l,
    (λ m e. (let a = tally_at' (λ y. origin_eq (origin.Rework m) y.origin) s.settled k x there (ap (origin_eq (origin.Rework m)) e ∙ origin_self m) in
        let b = h.ended m in let d = tally_under (is_of m) is_ended s.known in omega (arith, a, b, d))),
  ))
    where
      each_place : {P : Settled → Type 0} (xs : List Settled) → ((k : ℕ) (x : Settled) → slice_get xs k ≡ Some x → P x) → Each P xs
      each_place [] f = tt
      each_place (x ∷ xs) f = (f 0 x refl, each_place xs (λ k y g. f (suc k) y g))

      tally_at' : (t : Settled → Bool) (xs : List Settled) (k : ℕ) (x : Settled) → slice_get xs k ≡ Some x → t x ≡ true → 0 < tally t xs
      tally_at' t [] k x h g = cc
      tally_at' t (y ∷ xs) zero x h g = let e : y ≡ x = cc in let f : t y ≡ true = ap t e ∙ g in rw f (omega arith)
      tally_at' t (y ∷ xs) (suc k) x h g = omega (arith, tally_at' t xs k x h g)

  linked_push : (s : Local) (e : Known) → tally (is_of e.entry.name) s.known ≡ 0 → IsCounted c n s → Each (Linked s.known) s.settled → Each (Linked (s.known ++ e ∷ [])) s.settled
  linked_push s e fresh h l = Each_weaker (λ x. Linked s.known x × ((m : Name) → x.origin ≡ origin.Rework m → 0 < tally (is_of m) s.known)) (Linked (s.known ++ e ∷ []))
      (λ x y. status_push x.origin (resolution x.outcome (equations_of x.steps)) s.known e y.1 fresh y.0) s.settled (known_entries s h l)

  pub linked_keeps : Keeps order (IsLinked c n)
  linked_keeps = record {
    frame = λ s w t x k u l v j h. (counts.frame s w t x k u l v j h.0, h.1);
    taken = λ s place i o there h. (
      counts.taken s place i o there h.0,
      (let st = resolution o (equations_of i.steps) in
          Each_push (Linked (taken s place i o).known) s.settled (settlement i o)
          (Each_weaker (Linked s.known) (Linked (taken s place i o).known) (λ x y. status_resolved i.origin st x.origin (resolution x.outcome (equations_of x.steps)) (resolution_ends x.outcome (equations_of x.steps)) s.known y) s.settled h.1)
          (status_new i.origin st s.known (λ m e. (let a = tally_remove (λ y. origin_eq (origin.Rework m) y.origin) s.pending place i there in
          let b : origin_eq (origin.Rework m) i.origin ≡ true = ap (origin_eq (origin.Rework m)) e ∙ origin_self m in
          let a' : tally (λ y. origin_eq (origin.Rework m) y.origin) s.pending ≡ tally (λ y. origin_eq (origin.Rework m) y.origin) (remove s.pending place) + 1 = a ∙ rw b refl in
          let r = h.0.reworks m in let f = h.0.once m in omega (arith, a', r, f))))),
    );
    lost = λ s hit d h. (
      counts.lost s hit d h.0,
      Each_weaker (Linked s.known) (Linked (lost s hit d).known) (λ x y. status_map (strike_one s.me hit d) (strike_entry s.me hit d) (strike_ended s.me hit d) x.origin (resolution x.outcome (equations_of x.steps)) (resolution_ends x.outcome (equations_of x.steps)) s.known y) s.settled h.1,
    );
    joined = λ s r fresh calm h. (counts.joined s r fresh calm h.0, linked_push s (held r) fresh h.0 h.1);
    shelved = λ s r d w fresh h. (counts.shelved s r d w fresh h.0, linked_push s (record { entry = r; status = loss s.me d w r }) fresh h.0 h.1);
    replaced = λ s place i j there same h. (counts.replaced s place i j there same h.0, h.1);
    worked = λ s task y is h. (counts.worked s task y is h.0, h.1);
  }
