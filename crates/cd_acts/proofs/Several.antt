-- Several held entries are struck, one after another.
use Rattle.std.proofs.Common.{◌≡◌, ℕ, ◌+◌, ◌<◌, ◌≤◌, Bool, true, false, ◌&&◌, ◌||◌, not, cond, List, [], ◌∷◌, ◌++◌, length, map, drop, get_or, refl, ap, sym, ◌∙◌, subst, append-nil, append_assoc, inl, inr, ◌⊎◌, arith}
use Rattle.std.specs.Prelude.{filter, filter_map, is_some, Option, Some, None}
use Rattle.std.specs.List.{AllByRecursion as Each, cons_option, list_any}
use Rattle.cd_names.specs.declared.How.{How}
use Rattle.cd_names.specs.declared.names.Name.{Name}
use Rattle.cd_names.specs.Names.{name_eq}
use Rattle.cd_contract.specs.declared.held.Struck.{Struck}
use Rattle.cd_tasks.specs.declared.Task.{Task}
use Rattle.cd_tasks.specs.declared.Task.TheVariants.{Pair, Solo}
use Rattle.cd_tasks.specs.Owing.{touches}
use Rattle.cd_ledger.specs.declared.letters.Letter.{Letter}
use Rattle.cd_ledger.specs.declared.local.Local.{Local}
use Rattle.cd_ledger.specs.declared.records.Known.{Known}
use Rattle.cd_ledger.specs.declared.records.Record.{Record}
use Rattle.cd_ledger.specs.Records.{is_of}
use Rattle.cd_ledger.specs.Statuses.{is_held}
use Rattle.cd_machine.specs.Contraction.{hit_on, is_struck, loss, lost, named_hit, notice_of, notices, rework_of, reworks, strike_one, struck, struck_by, uncovered}
use Rattle.cd_acts.specs.Hits.{AreAmong, by_name, how_in}
use Rattle.cd_acts.specs.Indexed.{AreOnce, AreOthers}
use Rattle.cd_acts.specs.Struck.{struck_one}
use Rattle.cd_acts.proofs.Lists.{any_map, any_or, any_same, drop_at, drop_end, each_all, filter_same, filter_twice, gather_none, gather_same, map_same, map_twice}
use Rattle.cd_acts.proofs.Names.{name_eq_refl, name_eq_sym, name_same, once_others, once_rest}
use Rattle.cd_acts.proofs.Strikes.{MissesAll, loss_held, lost_none, notices_none, others_miss, strike_entry, struck_none, struck_once}

module _ (me : ℕ) (d : Name) (h : Struck) (hs : List Struck) where
  -- the first hit, the others, and all of them
  abbrev f : Known → Option How
  f = named_hit h.of h.how

  abbrev g : Known → Option How
  g = by_name hs

  abbrev all : Known → Option How
  all = by_name (h ∷ hs)

  abbrev first : Bool → Bool → Option How
  first held named = cond held (cond named (Some h.how) None) None

  abbrev whole : Known → Bool → Bool → Option How
  whole e held named = cond held (cond named (Some h.how) (how_in hs e.entry.name)) None

  -- what the others find once the first is struck
  later : (e : Known) (held named : Bool) → is_held e ≡ held → hit_on g (struck_by me d e (first held named)) ≡ cond held (cond named None (how_in hs e.entry.name)) None
  later e false named x = ap (λ b. cond b (g e) None) x
  later e true true x = ap (λ b. cond b (how_in hs e.entry.name) None) (loss_held me d h.how e.entry)
  later e true false x = ap (λ b. cond b (g e) None) x

  strike_cases : (e : Known) (held named : Bool) → is_held e ≡ held → struck_by me d (struck_by me d e (first held named)) (hit_on g (struck_by me d e (first held named))) ≡ struck_by me d e (whole e held named)
  strike_cases e false named x = ap (λ o. struck_by me d e o) (later e false named x)
  strike_cases e true true x = ap (λ o. struck_by me d (struck_one me d h.how e) o) (later e true true x)
  strike_cases e true false x = ap (λ o. struck_by me d e o) (later e true false x)

  struck_more : (es : List Known) → struck me g d (struck me f d es) ≡ struck me all d es
  struck_more es =
      map_twice (strike_one me f d) (strike_one me g d) es
      ∙ map_same (λ e. strike_one me g d (strike_one me f d e)) (strike_one me all d) es
      (each_all (λ e. strike_one me g d (strike_one me f d e) ≡ strike_one me all d e) (λ e. strike_cases e (is_held e) (is_of h.of e) refl) es)

  -- a name is struck by the first or by the others
  either : (c y : Bool) → ((c && false) || (c && y)) ≡ (c && y)
  either true y = refl
  either false y = refl

  only_first : (c : Bool) → ((c && true) || (c && false)) ≡ (c && true)
  only_first true = refl
  only_first false = refl

  name_cases : (e : Known) (c held named : Bool) → is_held e ≡ held
      → ((c && is_some (first held named)) || (c && is_some (hit_on g (struck_by me d e (first held named))))) ≡ (c && is_some (whole e held named))
  name_cases e c false named x = ap (λ (o : Option How). (c && false) || (c && is_some o)) (later e false named x) ∙ either c false
  name_cases e c true true x = ap (λ (o : Option How). (c && true) || (c && is_some o)) (later e true true x) ∙ only_first c
  name_cases e c true false x = ap (λ (o : Option How). (c && false) || (c && is_some o)) (later e true false x) ∙ either c (is_some (how_in hs e.entry.name))

  struck_names : (n : Name) (es : List Known) → (is_struck f es n || is_struck g (struck me f d es) n) ≡ is_struck all es n
  struck_names n es =
      ap (λ b. is_struck f es n || b) (any_map (λ e. is_of n e && is_some (hit_on g e)) (strike_one me f d) es)
      ∙ any_or (λ e. is_of n e && is_some (hit_on f e)) (λ e. is_of n (strike_one me f d e) && is_some (hit_on g (strike_one me f d e))) es
      ∙ any_same (λ e. (is_of n e && is_some (hit_on f e)) || (is_of n (strike_one me f d e) && is_some (hit_on g (strike_one me f d e)))) (λ e. is_of n e && is_some (hit_on all e)) es
      (each_all (λ e. ((is_of n e && is_some (hit_on f e)) || (is_of n (strike_one me f d e) && is_some (hit_on g (strike_one me f d e)))) ≡ (is_of n e && is_some (hit_on all e)))
      (λ e. ap (λ (r : Record). (is_of n e && is_some (hit_on f e)) || (name_eq r.name n && is_some (hit_on g (strike_one me f d e)))) (strike_entry me f d e)
      ∙ name_cases e (is_of n e) (is_held e) (is_of h.of e) refl) es)

  neither : (a b : Bool) → (not a && not b) ≡ not (a || b)
  neither true b = refl
  neither false b = refl

  four : (a b c e : Bool) → (not (a || b) && not (c || e)) ≡ not ((a || c) || (b || e))
  four true b c e = refl
  four false true true e = refl
  four false true false e = refl
  four false false true e = refl
  four false false false e = refl

  touched : (p q r : Name → Bool) → ((n : Name) → (p n || q n) ≡ r n) → (t : Task) → (not (touches p t) && not (touches q t)) ≡ not (touches r t)
  touched p q r x (Solo a) = neither (p a) (q a) ∙ ap not (x a)
  touched p q r x (Pair a b) = four (p a) (p b) (q a) (q b) ∙ ap (λ y. not (y || (p b || q b))) (x a) ∙ ap (λ y. not (r a || y)) (x b)

  uncovered_more : (es : List Known) (ts : List Task) → uncovered g (struck me f d es) (uncovered f es ts) ≡ uncovered all es ts
  uncovered_more es ts =
      filter_twice (λ t. not (touches (is_struck f es) t)) (λ t. not (touches (is_struck g (struck me f d es)) t)) ts
      ∙ filter_same (λ t. not (touches (is_struck f es) t) && not (touches (is_struck g (struck me f d es)) t)) (λ t. not (touches (is_struck all es) t))
      (touched (is_struck f es) (is_struck g (struck me f d es)) (is_struck all es) (λ n. struck_names n es)) ts

-- ---- what is gathered, in the order of the entries

-- a name that no entry has isn't hit
pub how_other : (n : Name) (es : List Known) (hits : List Struck) → AreAmong es hits → AreOthers n es → how_in hits n ≡ None
how_other n [] hits a o = ap (λ hs. how_in hs n) a
how_other n (e ∷ es) hits (inl a) o = how_other n es hits a o.1
how_other n (e ∷ es) hits (inr a) o =
    ap (λ hs. how_in hs n) a.2
    ∙ ap (λ (m : Name). cond (name_eq n m) (Some a.0.how) (how_in a.1 n)) a.3
    ∙ ap (λ b. cond b (Some a.0.how) (how_in a.1 n)) (name_eq_sym n e.entry.name ∙ o.0)
    ∙ how_other n es a.1 a.5 o.1

no_first : (b : Bool) (x : How) (o : Option How) → cond b (Some x) o ≡ None → b ≡ false
no_first true x o e = absurd cc
no_first false x o e = refl

no_later : (b : Bool) (x : How) (o : Option How) → cond b (Some x) o ≡ None → o ≡ None
no_later true x o e = absurd cc
no_later false x o e = e

alone : {B : Type 0} (o : Option B) (ys : List B) → cons_option o [] ++ ys ≡ cons_option o ys
alone None ys = refl
alone (Some x) ys = refl

unnamed : (b : Bool) (o p : Option How) → o ≡ p → cond b o None ≡ cond b p None
unnamed b o p e = ap (λ x. cond b x None) e

none_of : (b : Bool) → cond {A = Option How} b None None ≡ None
none_of true = refl
none_of false = refl

module _ {B : Type 0} (F : Record → Option How → Option B) (none : (r : Record) → F r None ≡ None) (me : ℕ) (d : Name) (h : Struck) (hs : List Struck) where
  -- an entry that isn't hit
  gather_skip : (e : Known) (xs ys zs : List B) → is_of h.of e ≡ false → how_in hs e.entry.name ≡ None → xs ++ ys ≡ zs
      → cons_option (F e.entry (hit_on (named_hit h.of h.how) e)) xs ++ cons_option (F (strike_one me (named_hit h.of h.how) d e).entry (hit_on (by_name hs) (strike_one me (named_hit h.of h.how) d e))) ys
      ≡ cons_option (F e.entry (hit_on (by_name (h ∷ hs)) e)) zs
  gather_skip e xs ys zs other never rest =
      let one : hit_on (named_hit h.of h.how) e ≡ None = unnamed (is_held e) (named_hit h.of h.how e) None (ap (λ b. cond b (Some h.how) None) other) ∙ none_of (is_held e) in
      let two : hit_on (by_name hs) e ≡ None = unnamed (is_held e) (by_name hs e) None never ∙ none_of (is_held e) in
      let three : hit_on (by_name (h ∷ hs)) e ≡ None = unnamed (is_held e) (by_name (h ∷ hs) e) None (ap (λ b. cond b (Some h.how) (how_in hs e.entry.name)) other ∙ never) ∙ none_of (is_held e) in
      ap (λ o. cons_option (F e.entry o) xs ++ cons_option (F (struck_by me d e o).entry (hit_on (by_name hs) (struck_by me d e o))) ys) one
      ∙ ap (λ o. cons_option (F e.entry None) xs ++ cons_option (F e.entry o) ys) two
      ∙ ap (λ o. cons_option o xs ++ cons_option o ys) (none e.entry)
      ∙ rest
      ∙ sym (ap (λ o. cons_option o zs) (ap (λ o. F e.entry o) three ∙ none e.entry))

  -- the entry that is hit first
  gather_hit : (e : Known) (xs ys zs : List B) → is_of h.of e ≡ true → is_held e ≡ true → xs ≡ [] → ys ≡ zs
      → cons_option (F e.entry (hit_on (named_hit h.of h.how) e)) xs ++ cons_option (F (strike_one me (named_hit h.of h.how) d e).entry (hit_on (by_name hs) (strike_one me (named_hit h.of h.how) d e))) ys
      ≡ cons_option (F e.entry (hit_on (by_name (h ∷ hs)) e)) zs
  gather_hit e xs ys zs named held nothing rest =
      let one : hit_on (named_hit h.of h.how) e ≡ Some h.how = ap (λ b. cond b (named_hit h.of h.how e) None) held ∙ ap (λ b. cond b (Some h.how) None) named in
      let two : hit_on (by_name hs) (struck_one me d h.how e) ≡ None = ap (λ b. cond b (how_in hs e.entry.name) None) (loss_held me d h.how e.entry) in
      let three : hit_on (by_name (h ∷ hs)) e ≡ Some h.how = ap (λ b. cond b (by_name (h ∷ hs) e) None) held ∙ ap (λ b. cond b (Some h.how) (how_in hs e.entry.name)) named in
      ap (λ o. cons_option (F e.entry o) xs ++ cons_option (F (struck_by me d e o).entry (hit_on (by_name hs) (struck_by me d e o))) ys) one
      ∙ ap (λ o. cons_option (F e.entry (Some h.how)) xs ++ cons_option (F e.entry o) ys) two
      ∙ ap (λ o. cons_option (F e.entry (Some h.how)) xs ++ cons_option o ys) (none e.entry)
      ∙ ap (λ zs. cons_option (F e.entry (Some h.how)) zs ++ ys) nothing
      ∙ alone (F e.entry (Some h.how)) ys
      ∙ ap (λ zs. cons_option (F e.entry (Some h.how)) zs) rest
      ∙ sym (ap (λ o. cons_option (F e.entry o) zs) three)

  misses_all : (es : List Known) → MissesAll (named_hit h.of h.how) es → Each (λ e. F e.entry (hit_on (named_hit h.of h.how) e) ≡ None) es
  misses_all [] m = tt
  misses_all (e ∷ es) m = (ap (λ o. F e.entry o) m.0 ∙ none e.entry, misses_all es m.1)

  others_same : (es : List Known) → AreOthers h.of es → Each (λ e. F e.entry (hit_on (by_name hs) e) ≡ F e.entry (hit_on (by_name (h ∷ hs)) e)) es
  others_same [] o = tt
  others_same (e ∷ es) o = (ap (λ b. F e.entry (cond (is_held e) (cond b (Some h.how) (how_in hs e.entry.name)) None)) (sym o.0), others_same es o.1)

  pub gather_more : (es : List Known) → AreOnce es → AreAmong es (h ∷ hs)
      → filter_map (λ e. F e.entry (hit_on (named_hit h.of h.how) e)) es ++ filter_map (λ e. F e.entry (hit_on (by_name hs) e)) (struck me (named_hit h.of h.how) d es)
      ≡ filter_map (λ e. F e.entry (hit_on (by_name (h ∷ hs)) e)) es
  gather_more [] once a = absurd cc
  gather_more (e ∷ es) once (inl a) =
      let never = how_other e.entry.name es (h ∷ hs) a (once_others e.entry.name e es once (name_eq_refl e.entry.name)) in
      gather_skip e _ _ _ (no_first (name_eq e.entry.name h.of) h.how (how_in hs e.entry.name) never) (no_later (name_eq e.entry.name h.of) h.how (how_in hs e.entry.name) never)
      (gather_more es (once_rest e es once) a)
  gather_more (e ∷ es) once (inr a) =
      let same : h ≡ a.0 = (let x : h ∷ hs ≡ a.0 ∷ a.1 = a.2 in cc) in
      let named : is_of h.of e ≡ true = name_same e.entry.name h.of (sym (ap (λ (x : Struck). x.of) same ∙ a.3)) in
      let others = once_others h.of e es once named in
      gather_hit e _ _ _ named a.4
      (gather_none (λ x. F x.entry (hit_on (named_hit h.of h.how) x)) es (misses_all es (others_miss h.of h.how es others)))
      (ap (λ xs. filter_map (λ x. F x.entry (hit_on (by_name hs) x)) xs) (struck_none me (named_hit h.of h.how) d es (others_miss h.of h.how es others))
      ∙ gather_same (λ x. F x.entry (hit_on (by_name hs) x)) (λ x. F x.entry (hit_on (by_name (h ∷ hs)) x)) es (others_same es others))

-- the other hits are among the entries that are left
pub among_more : (me : ℕ) (d : Name) (h : Struck) (hs : List Struck) (es : List Known) → AreOnce es → AreAmong es (h ∷ hs) → AreAmong (struck me (named_hit h.of h.how) d es) hs
among_more me d h hs [] once a = absurd cc
among_more me d h hs (e ∷ es) once (inl a) = inl (among_more me d h hs es (once_rest e es once) a)
among_more me d h hs (e ∷ es) once (inr a) =
    let x : h ∷ hs ≡ a.0 ∷ a.1 = a.2 in
    let same : h ≡ a.0 = cc in
    let rest : hs ≡ a.1 = cc in
    let named : is_of h.of e ≡ true = name_same e.entry.name h.of (sym (ap (λ (y : Struck). y.of) same ∙ a.3)) in
    inl (subst (λ xs. AreAmong xs hs) (sym (struck_none me (named_hit h.of h.how) d es (others_miss h.of h.how es (once_others h.of e es once named)))) (subst (λ zs. AreAmong es zs) (sym rest) a.5))

-- ---- one hit after another

pub lost_more : (s : Local) (d : Name) (h : Struck) (hs : List Struck) → AreOnce s.known → AreAmong s.known (h ∷ hs) → lost (lost s (named_hit h.of h.how) d) (by_name hs) d ≡ lost s (by_name (h ∷ hs)) d
lost_more s d h hs once a =
    rw (struck_more s.me d h hs s.known, uncovered_more s.me d h hs s.known s.owed, append_assoc, gather_more (λ r o. rework_of s.me d r o) (λ r. refl) s.me d h hs s.known once a) refl

pub notices_more : (time : ℕ) (s : Local) (d : Name) (h : Struck) (hs : List Struck) → AreOnce s.known → AreAmong s.known (h ∷ hs)
    → notices s.me time (named_hit h.of h.how) d s.known ++ notices s.me time (by_name hs) d (lost s (named_hit h.of h.how) d).known ≡ notices s.me time (by_name (h ∷ hs)) d s.known
notices_more time s d h hs once a = gather_more (λ r o. notice_of s.me time d r o) (λ r. refl) s.me d h hs s.known once a

nothing_hit : (es : List Known) → MissesAll (by_name []) es
nothing_hit [] = tt
nothing_hit (e ∷ es) = (none_of (is_held e), nothing_hit es)

-- the hits from a place on are still to be struck
pub record Losing (time : ℕ) (hits : List Struck) (d : Name) (s : Local) (sent : List Letter) (i : ℕ) (t : Local) (more : List Letter) : Type 0 where
  pub state : lost t (by_name (drop i hits)) d ≡ lost s (by_name hits) d
  pub letters : more ++ notices t.me time (by_name (drop i hits)) d t.known ≡ sent ++ notices s.me time (by_name hits) d s.known
  pub once : AreOnce t.known
  pub among : AreAmong t.known (drop i hits)

pub losing_start : (time : ℕ) (hits : List Struck) (d : Name) (s : Local) (sent : List Letter) → AreOnce s.known → AreAmong s.known hits → Losing time hits d s sent 0 s sent
losing_start time hits d s sent once a = record { state = refl; letters = refl; once = once; among = a }

module _ (time : ℕ) (hits : List Struck) (d : Name) (s : Local) (sent : List Letter) (i : ℕ) (t : Local) (more : List Letter) (l : Losing time hits d s sent i t more) where
  pub losing_more : (h : Struck) (u : Local) (next : List Letter) → i < length hits → h ≡ get_or hits i h → u ≡ lost t (named_hit h.of h.how) d
      → next ≡ more ++ notices t.me time (named_hit h.of h.how) d t.known → Losing time hits d s sent (i + 1) u next
  losing_more h u next small at is grown =
      let first = drop_at hits i h small at in
      let a = subst (λ xs. AreAmong t.known xs) first l.among in
      let left : Losing time hits d s sent (i + 1) (lost t (named_hit h.of h.how) d) next = record {
        state = lost_more t d h (drop (i + 1) hits) l.once a ∙ ap (λ xs. lost t (by_name xs) d) (sym first) ∙ l.state;
        letters =
            ap (λ xs. xs ++ notices t.me time (by_name (drop (i + 1) hits)) d (lost t (named_hit h.of h.how) d).known) grown
            ∙ append_assoc more (notices t.me time (named_hit h.of h.how) d t.known) (notices t.me time (by_name (drop (i + 1) hits)) d (lost t (named_hit h.of h.how) d).known)
            ∙ ap (λ xs. more ++ xs) (notices_more time t d h (drop (i + 1) hits) l.once a)
            ∙ ap (λ xs. more ++ notices t.me time (by_name xs) d t.known) (sym first)
            ∙ l.letters;
        once = struck_once t.me (named_hit h.of h.how) d t.known l.once;
        among = among_more t.me d h (drop (i + 1) hits) t.known l.once a;
      } in
      subst (λ x. Losing time hits d s sent (i + 1) x next) (sym is) left

  pub losing_state : length hits ≤ i → t ≡ lost s (by_name hits) d
  losing_state all = lost_none t (by_name []) d (nothing_hit t.known) ∙ ap (λ xs. lost t (by_name xs) d) (sym (drop_end hits i all)) ∙ l.state

  pub losing_letters : length hits ≤ i → more ≡ sent ++ notices s.me time (by_name hits) d s.known
  losing_letters all =
      sym (append-nil more)
      ∙ ap (λ xs. more ++ xs) (sym (notices_none t.me time (by_name []) d t.known (nothing_hit t.known)))
      ∙ ap (λ xs. more ++ notices t.me time (by_name xs) d t.known) (sym (drop_end hits i all))
      ∙ l.letters
