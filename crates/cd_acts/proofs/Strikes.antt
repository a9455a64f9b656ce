-- One held entry is struck: what the machine says of it, and what stands beside the known records.
use Rattle.std.proofs.Common.{◌≡◌, ℕ, Bool, true, false, ◌&&◌, ◌||◌, not, cond, eqb, if◌then◌else◌, List, [], ◌∷◌, ◌++◌, length, map, refl, ap, sym, ◌∙◌, subst, append-nil}
use Rattle.std.specs.Prelude.{slice_get, slice_set, filter, filter_map, is_some, Option, Some, None}
use Rattle.std.specs.List.{AllByRecursion as Each, cons_option, list_any}
use Rattle.std.proofs.lemmas.List.{map-append}
use Rattle.std.proofs.lemmas.List.Elements.{filter_map-append}
use Rattle.cd_names.specs.declared.How.{How}
use Rattle.cd_names.specs.declared.How.TheVariants as how
use Rattle.cd_names.specs.declared.names.Name.{Name}
use Rattle.cd_names.specs.Names.{name_eq}
use Rattle.cd_contract.specs.declared.held.Entry.{Entry}
use Rattle.cd_contract.specs.Held.{is_named, without}
use Rattle.cd_tasks.specs.declared.Arrival.{Arrival}
use Rattle.cd_tasks.specs.declared.Task.{Task}
use Rattle.cd_tasks.specs.declared.Task.TheVariants.{Pair, Solo}
use Rattle.cd_tasks.specs.Owing.{cover_one, free_of, touches}
use Rattle.cd_waiting.specs.declared.waiting.Waiter.{Waiter}
use Rattle.cd_ledger.specs.declared.letters.Letter.{Letter}
use Rattle.cd_ledger.specs.declared.local.Local.{Local}
use Rattle.cd_ledger.specs.declared.records.Known.{Known}
use Rattle.cd_ledger.specs.declared.records.Record.{Record}
use Rattle.cd_ledger.specs.declared.records.Status.TheVariants.{Told}
use Rattle.cd_ledger.specs.Records.{is_known, is_of}
use Rattle.cd_ledger.specs.Statuses.{is_held, status_holds}
use Rattle.cd_list.specs.Lists.{tally}
use Rattle.cd_list.proofs.Tally.{tally_map, tally_same}
use Rattle.cd_machine.specs.Arrivals.{arrival_of}
use Rattle.cd_machine.specs.Contraction.{hit_on, is_struck, loss, lost, lost_home, named_hit, notice_of, notices, rework_of, reworks, strike_one, struck, struck_by, uncovered}
use Rattle.cd_acts.specs.Indexed.{AreIndexed, AreOnce, AreOthers, HasNeeds, IsOnlyAt, entry_of, held_entry}
use Rattle.cd_acts.specs.Struck.{struck_one}
use Rattle.cd_acts.proofs.Lists.{any_apart, any_none, any_same, each_all, filter_same, gather_apart, gather_each, gather_none, map_alike, map_apart, set_apart}
use Rattle.cd_acts.proofs.Names.{name_eq_sym, name_eq_true}

-- ---- what is lost isn't held

home_held : (h : How) (d : Name) → status_holds (lost_home h d) ≡ false
home_held how.Subsumes d = refl
home_held how.Reduces d = refl

pub loss_held : (me : ℕ) (d : Name) (h : How) (r : Record) → status_holds (loss me d h r) ≡ false
loss_held me d h r = elim (eqb r.owner me) as (λ b. status_holds (cond b (lost_home h d) (Told d)) ≡ false) [ true ↦ home_held h d | false ↦ refl ]

struck_by_entry : (me : ℕ) (d : Name) (e : Known) (o : Option How) → (struck_by me d e o).entry ≡ e.entry
struck_by_entry me d e None = refl
struck_by_entry me d e (Some h) = refl

pub strike_entry : (me : ℕ) (hit : Known → Option How) (d : Name) (e : Known) → (strike_one me hit d e).entry ≡ e.entry
strike_entry me hit d e = struck_by_entry me d e (hit_on hit e)

-- names stay as they are
pub struck_tally : (n : Name) (me : ℕ) (hit : Known → Option How) (d : Name) (es : List Known) → tally (is_of n) (struck me hit d es) ≡ tally (is_of n) es
struck_tally n me hit d es =
    tally_map (is_of n) (strike_one me hit d) es
    ∙ tally_same (λ e. is_of n (strike_one me hit d e)) (is_of n) es (λ e. ap (λ (r : Record). name_eq r.name n) (strike_entry me hit d e))

pub struck_once : (me : ℕ) (hit : Known → Option How) (d : Name) (es : List Known) → AreOnce es → AreOnce (struck me hit d es)
struck_once me hit d es once = λ n. rw (struck_tally n me hit d es) (once n)

pub struck_known : (n : Name) (me : ℕ) (hit : Known → Option How) (d : Name) (es : List Known) → is_known (struck me hit d es) n ≡ is_known es n
struck_known n me hit d [] = refl
struck_known n me hit d (e ∷ es) =
    ap (λ (r : Record). name_eq r.name n || is_known (struck me hit d es) n) (strike_entry me hit d e) ∙ ap (λ b. is_of n e || b) (struck_known n me hit d es)

-- ---- a test that hits nothing

abbrev pub MissesAll : (Known → Option How) → List Known → Type 0
MissesAll hit es = Each (λ e. hit_on hit e ≡ None) es

misses_strike : (me : ℕ) (hit : Known → Option How) (d : Name) (es : List Known) → MissesAll hit es → Each (λ e. strike_one me hit d e ≡ e) es
misses_strike me hit d [] m = tt
misses_strike me hit d (e ∷ es) m = (ap (λ o. struck_by me d e o) m.0, misses_strike me hit d es m.1)

misses_reworks : (me : ℕ) (hit : Known → Option How) (d : Name) (es : List Known) → MissesAll hit es → Each (λ e. rework_of me d e.entry (hit_on hit e) ≡ None) es
misses_reworks me hit d [] m = tt
misses_reworks me hit d (e ∷ es) m = (ap (λ o. rework_of me d e.entry o) m.0, misses_reworks me hit d es m.1)

misses_notices : (me time : ℕ) (hit : Known → Option How) (d : Name) (es : List Known) → MissesAll hit es → Each (λ e. notice_of me time d e.entry (hit_on hit e) ≡ None) es
misses_notices me time hit d [] m = tt
misses_notices me time hit d (e ∷ es) m = (ap (λ o. notice_of me time d e.entry o) m.0, misses_notices me time hit d es m.1)

and_false : (b : Bool) → (b && false) ≡ false
and_false true = refl
and_false false = refl

misses_struck : (hit : Known → Option How) (n : Name) (es : List Known) → MissesAll hit es → Each (λ e. (is_of n e && is_some (hit_on hit e)) ≡ false) es
misses_struck hit n [] m = tt
misses_struck hit n (e ∷ es) m = (ap (λ (o : Option How). is_of n e && is_some o) m.0 ∙ and_false (is_of n e), misses_struck hit n es m.1)

-- a task is touched by tests that agree
pub touches_same : (p q : Name → Bool) → ((n : Name) → p n ≡ q n) → (t : Task) → touches p t ≡ touches q t
touches_same p q h (Solo a) = h a
touches_same p q h (Pair a b) = ap (λ x. x || p b) (h a) ∙ ap (λ x. q a || x) (h b)

untouched : (t : Task) → not (touches (λ n. false) t) ≡ true
untouched (Solo a) = refl
untouched (Pair a b) = refl

filter_whole : (ts : List Task) → filter (λ t. not (touches (λ n. false) t)) ts ≡ ts
filter_whole [] = refl
filter_whole (t ∷ ts) = ap (λ b. cond b (t ∷ filter (λ u. not (touches (λ n. false) u)) ts) (filter (λ u. not (touches (λ n. false) u)) ts)) (untouched t) ∙ ap (λ us. t ∷ us) (filter_whole ts)

pub uncovered_none : (hit : Known → Option How) (es : List Known) (ts : List Task) → MissesAll hit es → uncovered hit es ts ≡ ts
uncovered_none hit es ts m =
    filter_same (λ t. not (touches (is_struck hit es) t)) (λ t. not (touches (λ n. false) t))
    (λ t. ap not (touches_same (is_struck hit es) (λ n. false) (λ n. any_none (λ e. is_of n e && is_some (hit_on hit e)) es (misses_struck hit n es m)) t)) ts
    ∙ filter_whole ts

pub struck_none : (me : ℕ) (hit : Known → Option How) (d : Name) (es : List Known) → MissesAll hit es → struck me hit d es ≡ es
struck_none me hit d es m = map_alike (strike_one me hit d) es (misses_strike me hit d es m)

pub reworks_none : (me : ℕ) (hit : Known → Option How) (d : Name) (es : List Known) → MissesAll hit es → reworks me hit d es ≡ []
reworks_none me hit d es m = gather_none (λ e. rework_of me d e.entry (hit_on hit e)) es (misses_reworks me hit d es m)

pub notices_none : (me time : ℕ) (hit : Known → Option How) (d : Name) (es : List Known) → MissesAll hit es → notices me time hit d es ≡ []
notices_none me time hit d es m = gather_none (λ e. notice_of me time d e.entry (hit_on hit e)) es (misses_notices me time hit d es m)

pub lost_none : (s : Local) (hit : Known → Option How) (d : Name) → MissesAll hit s.known → s ≡ lost s hit d
lost_none s hit d m =
    sym (rw (struck_none s.me hit d s.known m, uncovered_none hit s.known s.owed m, reworks_none s.me hit d s.known m, append-nil) refl)

-- ---- a test of a name hits nothing among entries with other names, or that aren't held

hit_by : (a b : Bool) (h : How) → (a ≡ false) → cond b (cond a (Some h) None) None ≡ None
hit_by true b h e = absurd cc
hit_by false true h e = refl
hit_by false false h e = refl

pub others_miss : (n : Name) (h : How) (es : List Known) → AreOthers n es → MissesAll (named_hit n h) es
others_miss n h [] o = tt
others_miss n h (e ∷ es) o = (hit_by (is_of n e) (is_held e) h o.0, others_miss n h es o.1)

miss_append : (hit : Known → Option How) (front back : List Known) (e : Known) → MissesAll hit front → hit_on hit e ≡ None → MissesAll hit back → MissesAll hit (front ++ e ∷ back)
miss_append hit [] back e before here behind = (here, behind)
miss_append hit (x ∷ front) back e before here behind = (before.0, miss_append hit front back e before.1 here behind)

unheld_hit : (a b : Bool) (h : How) → (b ≡ false) → cond b (cond a (Some h) None) None ≡ None
unheld_hit a true h e = absurd cc
unheld_hit a false h e = refl

pub unheld_misses : (n : Name) (h : How) (es : List Known) (k : ℕ) (e : Known) → IsOnlyAt n es k e → is_held e ≡ false → MissesAll (named_hit n h) es
unheld_misses n h es k e at unheld =
    subst (λ ys. MissesAll (named_hit n h) ys) (sym at.split)
    (miss_append (named_hit n h) at.front at.back e (others_miss n h at.front at.before) (unheld_hit (is_of n e) (is_held e) h unheld) (others_miss n h at.back at.behind))

-- ---- one entry is struck

module _ (me : ℕ) (n d : Name) (h : How) (front back : List Known) (e : Known) (before : AreOthers n front) (behind : AreOthers n back) (named : is_of n e ≡ true) (held : is_held e ≡ true) where
  here : hit_on (named_hit n h) e ≡ Some h
  here = ap (λ b. cond b (named_hit n h e) None) held ∙ ap (λ b. cond b (Some h) None) named

  pub struck_apart : struck me (named_hit n h) d (front ++ e ∷ back) ≡ front ++ struck_one me d h e ∷ back
  struck_apart =
      map_apart (strike_one me (named_hit n h) d) front e back (misses_strike me (named_hit n h) d front (others_miss n h front before)) (misses_strike me (named_hit n h) d back (others_miss n h back behind))
      ∙ ap (λ o. front ++ struck_by me d e o ∷ back) here

  pub reworks_apart : reworks me (named_hit n h) d (front ++ e ∷ back) ≡ cons_option (rework_of me d e.entry (Some h)) []
  reworks_apart =
      gather_apart (λ x. rework_of me d x.entry (hit_on (named_hit n h) x)) front e back
      (misses_reworks me (named_hit n h) d front (others_miss n h front before)) (misses_reworks me (named_hit n h) d back (others_miss n h back behind))
      ∙ ap (λ o. cons_option (rework_of me d e.entry o) []) here

  pub notices_apart : (time : ℕ) → notices me time (named_hit n h) d (front ++ e ∷ back) ≡ cons_option (notice_of me time d e.entry (Some h)) []
  notices_apart time =
      gather_apart (λ x. notice_of me time d x.entry (hit_on (named_hit n h) x)) front e back
      (misses_notices me time (named_hit n h) d front (others_miss n h front before)) (misses_notices me time (named_hit n h) d back (others_miss n h back behind))
      ∙ ap (λ o. cons_option (notice_of me time d e.entry o) []) here

  and_true_right : (b : Bool) → (b && true) ≡ b
  and_true_right true = refl
  and_true_right false = refl

  struck_name : (m : Name) → is_struck (named_hit n h) (front ++ e ∷ back) m ≡ name_eq m n
  struck_name m =
      any_apart (λ x. is_of m x && is_some (hit_on (named_hit n h) x)) front e back (misses_struck (named_hit n h) m front (others_miss n h front before)) (misses_struck (named_hit n h) m back (others_miss n h back behind))
      ∙ ap (λ (o : Option How). is_of m e && is_some o) here
      ∙ and_true_right (is_of m e)
      ∙ ap (λ (x : Name). name_eq x m) (name_eq_true e.entry.name n named)
      ∙ name_eq_sym n m

  pub uncovered_apart : (ts : List Task) → uncovered (named_hit n h) (front ++ e ∷ back) ts ≡ filter (free_of n) ts
  uncovered_apart ts =
      filter_same (λ t. not (touches (is_struck (named_hit n h) (front ++ e ∷ back)) t)) (free_of n)
      (λ t. ap not (touches_same (is_struck (named_hit n h) (front ++ e ∷ back)) (λ m. name_eq m n) struck_name t)) ts

  -- the arrivals
  others_uncovered : (es : List Known) → AreOthers n es → map (cover_one n) (map (arrival_of me) es) ≡ map (arrival_of me) es
  others_uncovered [] o = refl
  others_uncovered (x ∷ es) o =
      ap (λ b. record { name = x.entry.name; resident = eqb x.entry.owner me; covered = b || not (is_held x) } ∷ map (cover_one n) (map (arrival_of me) es)) o.0
      ∙ ap (λ ys. arrival_of me x ∷ ys) (others_uncovered es o.1)

  covers : cover_one n (arrival_of me e) ≡ arrival_of me (struck_one me d h e)
  covers =
      ap (λ b. arrival e.entry (b || not (is_held e))) named
      ∙ ap (λ b. arrival e.entry (not b)) (sym (loss_held me d h e.entry))
    where
      arrival : Record → Bool → Arrival
      arrival r b = record { name = r.name; resident = eqb r.owner me; covered = b }

  pub covered_apart : map (cover_one n) (map (arrival_of me) (front ++ e ∷ back)) ≡ map (arrival_of me) (front ++ struck_one me d h e ∷ back)
  covered_apart =
      ap (λ ys. map (cover_one n) ys) (map-append (arrival_of me) front (e ∷ back))
      ∙ map-append (cover_one n) (map (arrival_of me) front) (arrival_of me e ∷ map (arrival_of me) back)
      ∙ ap (λ ys. ys ++ cover_one n (arrival_of me e) ∷ map (cover_one n) (map (arrival_of me) back)) (others_uncovered front before)
      ∙ ap (λ a. map (arrival_of me) front ++ a ∷ map (cover_one n) (map (arrival_of me) back)) covers
      ∙ ap (λ ys. map (arrival_of me) front ++ arrival_of me (struck_one me d h e) ∷ ys) (others_uncovered back behind)
      ∙ sym (map-append (arrival_of me) front (struck_one me d h e ∷ back))

  -- the table of held clauses
  not_named : (es : List Known) → AreOthers n es → Each (λ (x : Entry). is_named n x ≡ false) (filter_map held_entry es)
  not_named es o = gather_each (λ (x : Entry). is_named n x ≡ false) held_entry es (by es o)
    where
      one : (b : Bool) (x : Known) → is_of n x ≡ false → Each (λ (y : Entry). is_named n y ≡ false) (cons_option (cond b (Some (entry_of x)) None) [])
      one true x g = (g, tt)
      one false x g = tt

      by : (ys : List Known) → AreOthers n ys → Each (λ y. Each (λ (z : Entry). is_named n z ≡ false) (cons_option (held_entry y) [])) ys
      by [] g = tt
      by (y ∷ ys) g = (one (is_held y) y g.0, by ys g.1)

  without_apart : (xs : List Entry) (y : Entry) (ys : List Entry) → Each (λ (x : Entry). is_named n x ≡ false) xs → is_named n y ≡ true → without n (xs ++ y ∷ ys) ≡ xs ++ ys
  without_apart [] y ys all is = ap (λ b. cond b ys (y ∷ without n ys)) is
  without_apart (x ∷ xs) y ys all is = ap (λ b. cond b (xs ++ y ∷ ys) (x ∷ without n (xs ++ y ∷ ys))) all.0 ∙ ap (λ zs. x ∷ zs) (without_apart xs y ys all.1 is)

  pub held_apart : without n (filter_map held_entry (front ++ e ∷ back)) ≡ filter_map held_entry (front ++ struck_one me d h e ∷ back)
  held_apart =
      ap (λ ys. without n ys) (filter_map-append held_entry front (e ∷ back)
      ∙ ap (λ b. filter_map held_entry front ++ cons_option (cond b (Some (entry_of e)) None) (filter_map held_entry back)) held)
      ∙ without_apart (filter_map held_entry front) (entry_of e) (filter_map held_entry back) (not_named front before) named
      ∙ ap (λ b. filter_map held_entry front ++ cons_option (cond b (Some (entry_of (struck_one me d h e))) None) (filter_map held_entry back)) (sym (loss_held me d h e.entry))
      ∙ sym (filter_map-append held_entry front (struck_one me d h e ∷ back))

-- ---- the same of an entry in a place

module _ (n d : Name) (h : How) (es : List Known) (k : ℕ) (e : Known) (at : IsOnlyAt n es k e) (held : is_held e ≡ true) where
  same_name : e.entry.name ≡ n
  same_name = name_eq_true e.entry.name n at.named

  put_apart : (x : Known) → at.front ++ x ∷ at.back ≡ slice_set es k x
  put_apart x = sym (ap (λ ys. slice_set ys k x) at.split ∙ ap (λ i. slice_set (at.front ++ e ∷ at.back) i x) at.at ∙ set_apart at.front e at.back x)

  struck_in : (me : ℕ) → struck me (named_hit n h) d es ≡ slice_set es k (struck_one me d h e)
  struck_in me = ap (λ ys. struck me (named_hit n h) d ys) at.split ∙ struck_apart me n d h at.front at.back e at.before at.behind at.named held ∙ put_apart (struck_one me d h e)

  pub notices_at : (me time : ℕ) → cons_option (notice_of me time d e.entry (Some h)) [] ≡ notices me time (named_hit n h) d es
  notices_at me time = sym (ap (λ ys. notices me time (named_hit n h) d ys) at.split ∙ notices_apart me n d h at.front at.back e at.before at.behind at.named held time)

  -- what is left of a peer's state
  pub lost_at : (s : Local) → s.known ≡ es
      → record s { known = slice_set es k (struck_one s.me d h e); owed = filter (free_of e.entry.name) s.owed; pending = s.pending ++ cons_option (rework_of s.me d e.entry (Some h)) [] }
      ≡ lost s (named_hit n h) d
  lost_at s same =
      sym (rw (same, struck_in s.me, same_uncovered s.owed, same_reworks s.me, sym same_name) refl)
    where
      same_uncovered : (ts : List Task) → uncovered (named_hit n h) es ts ≡ filter (free_of n) ts
      same_uncovered ts = ap (λ ys. uncovered (named_hit n h) ys ts) at.split ∙ uncovered_apart s.me n d h at.front at.back e at.before at.behind at.named held ts

      same_reworks : (me : ℕ) → reworks me (named_hit n h) d es ≡ cons_option (rework_of me d e.entry (Some h)) []
      same_reworks me = ap (λ ys. reworks me (named_hit n h) d ys) at.split ∙ reworks_apart me n d h at.front at.back e at.before at.behind at.named held

  -- what stands beside the known records
  pub indexed_at : (me : ℕ) (arrived : List Arrival) (table : List Entry) (ws : List (Waiter Letter)) → AreIndexed me es arrived table ws
      → AreIndexed me (slice_set es k (struck_one me d h e)) (map (cover_one e.entry.name) arrived) (without e.entry.name table) ws
  indexed_at me arrived table ws i = record {
    names =
        ap (λ m. map (cover_one m) arrived) same_name ∙ ap (λ ys. map (cover_one n) ys) (i.names ∙ ap (λ ys. map (arrival_of me) ys) at.split)
        ∙ covered_apart me n d h at.front at.back e at.before at.behind at.named held ∙ ap (λ ys. map (arrival_of me) ys) (put_apart (struck_one me d h e));
    held =
        ap (λ m. without m table) same_name ∙ ap (λ ys. without n ys) (i.held ∙ ap (λ ys. filter_map held_entry ys) at.split)
        ∙ held_apart me n d h at.front at.back e at.before at.behind at.named held ∙ ap (λ ys. filter_map held_entry ys) (put_apart (struck_one me d h e));
    needs = i.needs;
  }
