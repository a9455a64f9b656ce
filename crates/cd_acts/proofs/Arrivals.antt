-- What stands beside the known records when one comes to be known, or has its end.
use Rattle.std.proofs.Common.{◌≡◌, ℕ, Bool, true, false, ◌&&◌, not, cond, eqb, List, [], ◌∷◌, ◌++◌, length, map, refl, ap, sym, ◌∙◌, subst}
use Rattle.std.specs.Prelude.{slice_get, slice_set, filter_map, Option, Some, None}
use Rattle.std.specs.List.{AllByRecursion as Each, cons_option}
use Rattle.std.proofs.lemmas.List.{map-append}
use Rattle.std.proofs.lemmas.List.Elements.{filter_map-append}
use Rattle.cd_contract.specs.declared.held.Entry.{Entry}
use Rattle.cd_names.specs.declared.How.{How}
use Rattle.cd_names.specs.declared.names.Name.{Name}
use Rattle.cd_names.specs.Names.{name_eq}
use Rattle.cd_tasks.specs.declared.Arrival.{Arrival}
use Rattle.cd_tasks.specs.declared.Task.{Task}
use Rattle.cd_tasks.specs.Order.{new_tasks}
use Rattle.cd_waiting.specs.declared.waiting.Waiter.{Waiter}
use Rattle.cd_ledger.specs.declared.items.Origin.{Origin}
use Rattle.cd_ledger.specs.declared.items.Origin.TheVariants as origin
use Rattle.cd_ledger.specs.declared.items.Outcome.{Outcome}
use Rattle.cd_ledger.specs.declared.items.Outcome.TheVariants.{Named, Subsumed, Trivial}
use Rattle.cd_ledger.specs.declared.letters.Letter.{Letter}
use Rattle.cd_ledger.specs.declared.local.Local.{Local}
use Rattle.cd_ledger.specs.declared.records.Known.{Known}
use Rattle.cd_ledger.specs.declared.records.Record.{Record}
use Rattle.cd_ledger.specs.declared.records.Status.{Status}
use Rattle.cd_ledger.specs.declared.records.Status.TheVariants.{Dropped, Held, Rework, Told}
use Rattle.cd_ledger.specs.Records.{is_known, is_of}
use Rattle.cd_ledger.specs.Statuses.{is_held, is_rework, status_holds, status_reworks}
use Rattle.cd_list.specs.Lists.{tally}
use Rattle.cd_list.proofs.Tally.{tally_map, tally_same}
use Rattle.cd_machine.specs.Acts.{resolution, resolve_one, resolved}
use Rattle.cd_machine.specs.Arrivals.{arrival_of, held, tasks_of}
use Rattle.cd_machine.specs.Contraction.{loss}
use Rattle.cd_acts.specs.Indexed.{AreIndexed, AreOnce, AreOthers, IsOnlyAt, entry_of, held_entry}
use Rattle.cd_acts.proofs.Lists.{each_all, gather_same, map_alike, map_apart, map_same, map_twice, set_apart}
use Rattle.cd_acts.proofs.Strikes.{loss_held}

-- ---- one entry more

module _ (me : ℕ) (es : List Known) (arrived : List Arrival) (table : List Entry) (ws : List (Waiter Letter)) (i : AreIndexed me es arrived table ws) where
  pub indexed_push : (e : Known) → AreIndexed me (es ++ e ∷ []) (arrived ++ arrival_of me e ∷ []) (table ++ cons_option (held_entry e) []) ws
  indexed_push e = record {
    names = ap (λ l. l ++ arrival_of me e ∷ []) i.names ∙ sym (map-append (arrival_of me) es (e ∷ []));
    held = ap (λ l. l ++ cons_option (held_entry e) []) i.held ∙ sym (filter_map-append held_entry es (e ∷ []));
    needs = i.needs;
  }

  pub indexed_joined : (r : Record) → AreIndexed me (es ++ held r ∷ []) (arrived ++ record { name = r.name; resident = eqb r.owner me; covered = false } ∷ []) (table ++ record { name = r.name; clause = r.clause } ∷ []) ws
  indexed_joined r = indexed_push (held r)

  abbrev shelf : Record → Status → Known
  shelf r st = record { entry = r; status = st }

  pub indexed_shelved : (r : Record) (st : Status) → status_holds st ≡ false → AreIndexed me (es ++ record { entry = r; status = st } ∷ []) (arrived ++ record { name = r.name; resident = eqb r.owner me; covered = true } ∷ []) table ws
  indexed_shelved r st unheld = record {
    names =
        ap (λ l. l ++ arrival r true ∷ []) i.names
        ∙ ap (λ b. map (arrival_of me) es ++ arrival r (not b) ∷ []) (sym unheld)
        ∙ sym (map-append (arrival_of me) es (shelf r st ∷ []));
    held =
        i.held ∙ sym (filter_map-append held_entry es (shelf r st ∷ [])
        ∙ ap (λ b. filter_map held_entry es ++ cons_option (cond b (Some (entry_of (shelf r st))) None) []) unheld
        ∙ whole (filter_map held_entry es));
    needs = i.needs;
  }
    where
      arrival : Record → Bool → Arrival
      arrival x b = record { name = x.name; resident = eqb x.owner me; covered = b }

      whole : (xs : List Entry) → xs ++ [] ≡ xs
      whole [] = refl
      whole (x ∷ xs) = ap (λ ys. x ∷ ys) (whole xs)

  -- the tasks of a name that arrives are those of the machine
  pub tasks_joined : (r : Record) (owed : List Task) → owed ++ new_tasks r.name (eqb r.owner me) arrived ≡ owed ++ tasks_of me r es
  tasks_joined r owed = ap (λ l. owed ++ new_tasks r.name (eqb r.owner me) l) i.names

-- ---- a name that was reworked has its end

pub resolution_held : (o : Outcome) (using : List Name) → status_holds (resolution o using) ≡ false
resolution_held (Named n) using = refl
resolution_held Trivial using = refl
resolution_held (Subsumed d) using = refl

rework_unheld : (s : Status) → status_reworks s ≡ true → status_holds s ≡ false
rework_unheld Held h = absurd cc
rework_unheld (Rework d) h = refl
rework_unheld (Dropped r) h = refl
rework_unheld (Told d) h = refl

pub resolve_entry : (n : Name) (st : Status) (e : Known) → (resolve_one n st e).entry ≡ e.entry
resolve_entry n st e = elim (is_of n e && is_rework e) as (λ b. (cond b (record e { status = st }) e).entry ≡ e.entry) [ true ↦ refl | false ↦ refl ]

pub resolve_held : (n : Name) (st : Status) (e : Known) → status_holds st ≡ false → is_held (resolve_one n st e) ≡ is_held e
resolve_held n st e h = go (is_of n e) (is_rework e) refl
  where
    go : (a b : Bool) → is_rework e ≡ b → is_held (cond (a && b) (record e { status = st }) e) ≡ is_held e
    go true true x = h ∙ sym (rework_unheld e.status x)
    go true false x = refl
    go false b x = refl

pub resolved_once : (o : Origin) (st : Status) (es : List Known) → AreOnce es → AreOnce (resolved o st es)
resolved_once (origin.Input k) st es once = once
resolved_once (origin.Task t k) st es once = once
resolved_once (origin.Rework n) st es once = λ m. rw (tally_map (is_of m) (resolve_one n st) es ∙ tally_same (λ e. is_of m (resolve_one n st e)) (is_of m) es (λ e. ap (λ (r : Record). name_eq r.name m) (resolve_entry n st e))) (once m)

abbrev arrival_by : ℕ → Record → Bool → Arrival
arrival_by me r held = record { name = r.name; resident = eqb r.owner me; covered = not held }

same_arrival : (me : ℕ) (r s : Record) (a b : Bool) → r ≡ s → a ≡ b → arrival_by me r a ≡ arrival_by me s b
same_arrival me r s a b x y = ap (λ z. arrival_by me z a) x ∙ ap (λ z. arrival_by me s z) y

abbrev table_entry : Record → Bool → Option Entry
table_entry r held = cond held (Some (record { name = r.name; clause = r.clause })) None

same_entry : (r s : Record) (a b : Bool) → r ≡ s → a ≡ b → table_entry r a ≡ table_entry s b
same_entry r s a b x y = ap (λ z. table_entry z a) x ∙ ap (λ z. table_entry s z) y

pub indexed_resolved : (me : ℕ) (o : Origin) (st : Status) (es : List Known) (arrived : List Arrival) (table : List Entry) (ws : List (Waiter Letter)) → status_holds st ≡ false
    → AreIndexed me es arrived table ws → AreIndexed me (resolved o st es) arrived table ws
indexed_resolved me (origin.Input k) st es arrived table ws h i = i
indexed_resolved me (origin.Task t k) st es arrived table ws h i = i
indexed_resolved me (origin.Rework n) st es arrived table ws h i = record {
  names = i.names ∙ sym (map_twice (resolve_one n st) (arrival_of me) es
      ∙ map_same (λ e. arrival_of me (resolve_one n st e)) (arrival_of me) es
      (each_all (λ e. arrival_of me (resolve_one n st e) ≡ arrival_of me e)
      (λ e. same_arrival me (resolve_one n st e).entry e.entry (is_held (resolve_one n st e)) (is_held e) (resolve_entry n st e) (resolve_held n st e h)) es));
  held = i.held ∙ sym (gather_twice es
      ∙ gather_same (λ e. held_entry (resolve_one n st e)) held_entry es
      (each_all (λ e. held_entry (resolve_one n st e) ≡ held_entry e)
      (λ e. same_entry (resolve_one n st e).entry e.entry (is_held (resolve_one n st e)) (is_held e) (resolve_entry n st e) (resolve_held n st e h)) es));
  needs = i.needs;
}
  where
    gather_twice : (xs : List Known) → filter_map held_entry (map (resolve_one n st) xs) ≡ filter_map (λ e. held_entry (resolve_one n st e)) xs
    gather_twice [] = refl
    gather_twice (x ∷ xs) = ap (λ ys. cons_option (held_entry (resolve_one n st x)) ys) (gather_twice xs)

-- an entry with another name, or that isn't reworked, stays as it is
others_stay : (n : Name) (st : Status) (es : List Known) → AreOthers n es → Each (λ e. resolve_one n st e ≡ e) es
others_stay n st [] o = tt
others_stay n st (e ∷ es) o = (ap (λ b. cond (b && is_rework e) (record e { status = st }) e) o.0, others_stay n st es o.1)

pub resolve_others : (n : Name) (st : Status) (es : List Known) → AreOthers n es → es ≡ map (resolve_one n st) es
resolve_others n st es o = sym (map_alike (resolve_one n st) es (others_stay n st es o))

module _ (n : Name) (st : Status) (es : List Known) (k : ℕ) (e : Known) (at : IsOnlyAt n es k e) where
  resolve_apart : map (resolve_one n st) es ≡ at.front ++ resolve_one n st e ∷ at.back
  resolve_apart = ap (λ ys. map (resolve_one n st) ys) at.split ∙ map_apart (resolve_one n st) at.front e at.back (others_stay n st at.front at.before) (others_stay n st at.back at.behind)

  and_false : (b : Bool) → (b && false) ≡ false
  and_false true = refl
  and_false false = refl

  pub resolve_kept : is_rework e ≡ false → es ≡ map (resolve_one n st) es
  resolve_kept h =
      at.split ∙ sym (resolve_apart ∙ ap (λ b. at.front ++ cond (is_of n e && b) (record e { status = st }) e ∷ at.back) h
      ∙ ap (λ b. at.front ++ cond b (record e { status = st }) e ∷ at.back) (and_false (is_of n e)))

  pub resolve_in : is_rework e ≡ true → slice_set es k (record e { status = st }) ≡ map (resolve_one n st) es
  resolve_in h =
      ap (λ ys. slice_set ys k (record e { status = st })) at.split
      ∙ ap (λ j. slice_set (at.front ++ e ∷ at.back) j (record e { status = st })) at.at
      ∙ set_apart at.front e at.back (record e { status = st })
      ∙ sym (resolve_apart ∙ ap (λ b. at.front ++ cond (b && is_rework e) (record e { status = st }) e ∷ at.back) at.named
      ∙ ap (λ b. at.front ++ cond b (record e { status = st }) e ∷ at.back) h)
