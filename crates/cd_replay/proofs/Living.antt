-- Which tasks are still owed behind a change of the known names.
use Rattle.std.proofs.Common.{◌≡◌, ℕ, ◌+◌, ◌≤◌, ◌==◌, Bool, true, false, ◌&&◌, ◌||◌, not, cond, eqb, List, [], ◌∷◌, ◌++◌, map, filter, refl, ap, sym, ◌∙◌, subst, arith}
use Rattle.std.specs.Prelude.{Option, Some, None, filter_map, is_some}
use Rattle.std.specs.List.{AllByRecursion as Each, cons_option}
use Rattle.std.proofs.lemmas.Bool.{false≢true}
use Rattle.cd_acts.proofs.Lists.{and_true}
use Rattle.cd_acts.proofs.Names.{name_eq_refl}
use Rattle.cd_alone.specs.Ready.{AreOnce}
use Rattle.cd_laws.proofs.Gathered.{first_of, gathered_tasks, own_tasks, same_tasks, second_of}
use Rattle.cd_laws.proofs.Lists.{Each_gather, some_none, tally_append}
use Rattle.cd_laws.proofs.Strikes.{resolve_entry, resolve_held, strike_entry, strike_held, struck_tally}
use Rattle.cd_ledger.specs.Records.{is_of}
use Rattle.cd_ledger.specs.Statuses.{is_held, status_holds}
use Rattle.cd_ledger.specs.declared.items.Origin.{Origin}
use Rattle.cd_ledger.specs.declared.items.Origin.TheVariants as origin
use Rattle.cd_ledger.specs.declared.local.Local.{Local}
use Rattle.cd_ledger.specs.declared.records.Known.{Known}
use Rattle.cd_ledger.specs.declared.records.Record.{Record}
use Rattle.cd_ledger.specs.declared.records.Status.{Status}
use Rattle.cd_list.proofs.Lists.{all_append, all_weaker}
use Rattle.cd_list.specs.Lists.{tally}
use Rattle.cd_machine.specs.Acts.{resolve_one, resolved}
use Rattle.cd_machine.specs.Arrivals.{held, tasks_of}
use Rattle.cd_machine.specs.Contraction.{hit_on, is_struck, strike_one, struck, uncovered}
use Rattle.cd_names.specs.Names.{name_eq}
use Rattle.cd_names.specs.declared.How.{How}
use Rattle.cd_names.specs.declared.names.Name.{Name}
use Rattle.cd_tasks.specs.Owing.{touches}
use Rattle.cd_tasks.specs.declared.Task.{Task}
use Rattle.cd_tasks.specs.declared.Task.TheVariants.{Pair, Solo}
use Rattle.cd_replay.specs.Replayed.{IsLiving, is_living, lives, rejoined}

-- ---- tests

or_left : (a b : Bool) → a ≡ true → (a || b) ≡ true
or_left true b h = refl
or_left false b h = absurd (false≢true h)

or_right : (a b : Bool) → b ≡ true → (a || b) ≡ true
or_right true b h = refl
or_right false b h = h

and_both : (a b : Bool) → a ≡ true → b ≡ true → (a && b) ≡ true
and_both true b h g = g
and_both false b h g = h

neither : (a b : Bool) → (not a && not b) ≡ not (a || b)
neither true b = refl
neither false b = refl

filter_each : {A : Type 0} (p q : A → Bool) (xs : List A) → Each (λ x. p x ≡ q x) xs → filter p xs ≡ filter q xs
filter_each p q [] h = refl
filter_each p q (x ∷ xs) h = ap (λ b. cond b (x ∷ filter p xs) (filter p xs)) h.0 ∙ ap (λ ys. cond (q x) (x ∷ ys) ys) (filter_each p q xs h.1)

filter_passes : {A : Type 0} (p : A → Bool) (xs : List A) → Each (λ x. p x ≡ true) (filter p xs)
filter_passes p [] = tt
filter_passes p (x ∷ xs) = go (p x) refl (filter_passes p xs)
  where
    go : (b : Bool) → p x ≡ b → Each (λ y. p y ≡ true) (filter p xs) → Each (λ y. p y ≡ true) (cond b (x ∷ filter p xs) (filter p xs))
    go true e rest = (e, rest)
    go false e rest = rest

-- ---- a record more

lives_left : (n : Name) (xs ys : List Known) → lives xs n ≡ true → lives (xs ++ ys) n ≡ true
lives_left n [] ys h = absurd (false≢true h)
lives_left n (x ∷ xs) ys h = elim (is_of n x && is_held x) as (λ b. (b || lives xs n) ≡ true → (b || lives (xs ++ ys) n) ≡ true) [ true ↦ λ g. refl | false ↦ λ g. lives_left n xs ys g ] h

living_left : (xs ys : List Known) (t : Task) → IsLiving xs t → IsLiving (xs ++ ys) t
living_left xs ys (Solo a) h = lives_left a xs ys h
living_left xs ys (Pair a b) h = let g = and_true (lives xs a) (lives xs b) h in and_both (lives (xs ++ ys) a) (lives (xs ++ ys) b) (lives_left a xs ys g.0) (lives_left b xs ys g.1)

pub owed_left : (xs ys : List Known) (ts : List Task) → Each (IsLiving xs) ts → Each (IsLiving (xs ++ ys)) ts
owed_left xs ys ts h = all_weaker (IsLiving xs) (IsLiving (xs ++ ys)) ts (living_left xs ys) h

-- ---- an item settled

module _ (f : Known → Known) (entry : (e : Known) → (f e).entry ≡ e.entry) (same : (e : Known) → is_held (f e) ≡ is_held e) where
  lives_map : (n : Name) (es : List Known) → lives (map f es) n ≡ lives es n
  lives_map n [] = refl
  lives_map n (e ∷ es) =
      ap (λ (r : Record). (name_eq r.name n && is_held (f e)) || lives (map f es) n) (entry e)
      ∙ ap (λ (b : Bool). (is_of n e && b) || lives (map f es) n) (same e)
      ∙ ap (λ (b : Bool). (is_of n e && is_held e) || b) (lives_map n es)

  living_map : (es : List Known) (t : Task) → is_living (map f es) t ≡ is_living es t
  living_map es (Solo a) = lives_map a es
  living_map es (Pair a b) = ap (λ (x : Bool). x && lives (map f es) b) (lives_map a es) ∙ ap (λ (x : Bool). lives es a && x) (lives_map b es)

living_resolved : (o : Origin) (st : Status) → status_holds st ≡ false → (es : List Known) (t : Task) → is_living (resolved o st es) t ≡ is_living es t
living_resolved (origin.Input k) st h es t = refl
living_resolved (origin.Task u k) st h es t = refl
living_resolved (origin.Rework n) st h es t = living_map (resolve_one n st) (resolve_entry n st) (λ e. resolve_held n st e h) es t

pub owed_resolved : (o : Origin) (st : Status) → status_holds st ≡ false → (es : List Known) (ts : List Task) → Each (IsLiving es) ts → Each (IsLiving (resolved o st es)) ts
owed_resolved o st h es ts are = all_weaker (IsLiving es) (IsLiving (resolved o st es)) ts (λ t g. living_resolved o st h es t ∙ g) are

-- ---- names that are struck

first_struck : (o u k l z s h : Bool) → o ≡ true → u ≡ o → k ≡ (h && not s) → h ≡ true → l ≡ false → z ≡ false → ((u && k) || l) ≡ not ((o && s) || z)
first_struck o u k l z s h eo eu ek eh el ez = rw (eu, eo, ek, eh, el, ez) (by s)
  where
    by : (x : Bool) → ((true && (true && not x)) || false) ≡ not ((true && x) || false)
    by true = refl
    by false = refl

later_struck : (o u k l z s : Bool) → o ≡ false → u ≡ o → l ≡ not z → ((u && k) || l) ≡ not ((o && s) || z)
later_struck o u k l z s eo eu el = rw (eu, eo) el

held_here : (o k l : Bool) → ((o && k) || l) ≡ true → o ≡ true → l ≡ false → k ≡ true
held_here true true l h eo el = refl
held_here true false l h eo el = absurd (false≢true (sym el ∙ h))
held_here false k l h eo el = absurd (false≢true eo)

later_here : (o k l : Bool) → ((o && k) || l) ≡ true → o ≡ false → l ≡ true
later_here true k l h eo = absurd (false≢true (sym eo))
later_here false k l h eo = h

none_behind : (o : Bool) (t : ℕ) → o ≡ true → cond o 1 0 + t ≤ 1 → t ≡ 0
none_behind true t e h = omega (arith, h)
none_behind false t e h = absurd (false≢true e)

module _ (me : ℕ) (hit : Known → Option How) (d : Name) (tail : List Known) where
  lives_struck : (n : Name) (es : List Known) → tally (is_of n) (struck me hit d es ++ tail) ≤ 1 → lives es n ≡ true → lives (struck me hit d es ++ tail) n ≡ not (is_struck hit es n)
  lives_struck n [] once h = absurd (false≢true h)
  lives_struck n (e ∷ es) once h = go (is_of n e) refl (lives_struck n es)
    where
      same : is_of n (strike_one me hit d e) ≡ is_of n e
      same = ap (λ (r : Record). name_eq r.name n) (strike_entry me hit d e)

      go : (b : Bool) → is_of n e ≡ b → (tally (is_of n) (struck me hit d es ++ tail) ≤ 1 → lives es n ≡ true → lives (struck me hit d es ++ tail) n ≡ not (is_struck hit es n))
          → lives (struck me hit d (e ∷ es) ++ tail) n ≡ not (is_struck hit (e ∷ es) n)
      go true f rest =
          let none : tally (is_of n) (struck me hit d es ++ tail) ≡ 0 = none_behind (is_of n (strike_one me hit d e)) (tally (is_of n) (struck me hit d es ++ tail)) (same ∙ f) once in
          let split = tally_append (is_of n) (struck me hit d es) tail in
          let counts = struck_tally n me hit d es in
          let before : tally (is_of n) es ≡ 0 = omega (arith, none, split, counts) in
          first_struck (is_of n e) (is_of n (strike_one me hit d e)) (is_held (strike_one me hit d e)) (lives (struck me hit d es ++ tail) n) (is_struck hit es n) (is_some (hit_on hit e)) (is_held e) f same
          (strike_held me hit d e) (held_here (is_of n e) (is_held e) (lives es n) h f (some_none (is_of n) is_held es before)) (some_none (is_of n) is_held (struck me hit d es ++ tail) none)
          (some_none (is_of n) (λ x. is_some (hit_on hit x)) es before)
      go false f rest =
          later_struck (is_of n e) (is_of n (strike_one me hit d e)) (is_held (strike_one me hit d e)) (lives (struck me hit d es ++ tail) n) (is_struck hit es n) (is_some (hit_on hit e)) f same
          (rest (omega (arith, once)) (later_here (is_of n e) (is_held e) (lives es n) h f))

  living_struck : (es : List Known) → AreOnce (struck me hit d es ++ tail) → (t : Task) → IsLiving es t → is_living (struck me hit d es ++ tail) t ≡ not (touches (is_struck hit es) t)
  living_struck es once (Solo a) h = lives_struck a es (once a) h
  living_struck es once (Pair a b) h =
      let g = and_true (lives es a) (lives es b) h in
      ap (λ (x : Bool). x && lives (struck me hit d es ++ tail) b) (lives_struck a es (once a) g.0)
      ∙ ap (λ (x : Bool). not (is_struck hit es a) && x) (lives_struck b es (once b) g.1)
      ∙ neither (is_struck hit es a) (is_struck hit es b)

  -- what is left of the tasks is what is uncovered
  pub owed_struck : (es : List Known) (ts : List Task) → AreOnce (struck me hit d es ++ tail) → Each (IsLiving es) ts → filter (is_living (struck me hit d es ++ tail)) ts ≡ uncovered hit es ts
  owed_struck es ts once are =
      filter_each (is_living (struck me hit d es ++ tail)) (λ t. not (touches (is_struck hit es) t)) ts
      (all_weaker (IsLiving es) (λ t. is_living (struck me hit d es ++ tail) t ≡ not (touches (is_struck hit es) t)) ts (living_struck es once) are)

-- ---- the tasks of a record that comes

all_lives : (es : List Known) → Each (λ e. is_held e ≡ true → lives es e.entry.name ≡ true) es
all_lives [] = tt
all_lives (x ∷ es) = (
  (λ h. or_left (is_of x.entry.name x && is_held x) (lives es x.entry.name) (and_both (is_of x.entry.name x) (is_held x) (name_eq_refl x.entry.name) h)),
  all_weaker (λ e. is_held e ≡ true → lives es e.entry.name ≡ true) (λ e. is_held e ≡ true → lives (x ∷ es) e.entry.name ≡ true) es
      (λ e g h. or_right (is_of e.entry.name x && is_held x) (lives es e.entry.name) (g h)) (all_lives es),
)

module _ (me : ℕ) (r : Record) where
  lives_last : (es : List Known) → lives (es ++ held r ∷ []) r.name ≡ true
  lives_last [] = rw (name_eq_refl r.name) refl
  lives_last (e ∷ es) = or_right (is_of r.name e && is_held e) (lives (es ++ held r ∷ []) r.name) (lives_last es)

  abbrev Comes : List Known → Known → Type 0
  Comes fs e = is_held e ≡ true → lives fs e.entry.name ≡ true

  second_lives : (fs : List Known) → lives fs r.name ≡ true → (e : Known) → Comes fs e → Each (IsLiving fs) (cons_option (second_of r.name e) [])
  second_lives fs last e come =
      elim (is_held e) as (λ b. (b ≡ true → lives fs e.entry.name ≡ true) → Each (IsLiving fs) (cons_option (cond b (Some (Pair e.entry.name r.name)) None) []))
      [ true ↦ λ k. (and_both (lives fs e.entry.name) (lives fs r.name) (k refl) last, tt) | false ↦ λ k. tt ] come

  first_lives : (fs : List Known) → lives fs r.name ≡ true → (e : Known) → Comes fs e → Each (IsLiving fs) (cons_option (first_of me r.name e) [])
  first_lives fs last e come = go (is_held e && (e.entry.owner == me)) refl
    where
      go : (b : Bool) → (is_held e && (e.entry.owner == me)) ≡ b → Each (IsLiving fs) (cons_option (cond b (Some (Pair r.name e.entry.name)) None) [])
      go true f = (and_both (lives fs r.name) (lives fs e.entry.name) last (come (and_true (is_held e) (e.entry.owner == me) f).0), tt)
      go false f = tt

  module _ (es : List Known) where
    come : Each (Comes (es ++ held r ∷ [])) es
    come = all_weaker (Comes es) (Comes (es ++ held r ∷ [])) es (λ e g h. lives_left e.entry.name es (held r ∷ []) (g h)) (all_lives es)

    seconds_live : Each (IsLiving (es ++ held r ∷ [])) (filter_map (second_of r.name) es)
    seconds_live = Each_gather (IsLiving (es ++ held r ∷ [])) (second_of r.name) es (all_weaker (Comes (es ++ held r ∷ [])) (λ e. Each (IsLiving (es ++ held r ∷ [])) (cons_option (second_of r.name e) [])) es (second_lives (es ++ held r ∷ []) (lives_last es)) come)

    firsts_live : Each (IsLiving (es ++ held r ∷ [])) (filter_map (first_of me r.name) es)
    firsts_live = Each_gather (IsLiving (es ++ held r ∷ [])) (first_of me r.name) es (all_weaker (Comes (es ++ held r ∷ [])) (λ e. Each (IsLiving (es ++ held r ∷ [])) (cons_option (first_of me r.name e) [])) es (first_lives (es ++ held r ∷ []) (lives_last es)) come)

    own_live : Each (IsLiving (es ++ held r ∷ [])) (own_tasks r.name es)
    own_live = (
      lives_last es,
      all_append (IsLiving (es ++ held r ∷ [])) (filter_map (second_of r.name) es) (Pair r.name r.name ∷ []) seconds_live
          (and_both (lives (es ++ held r ∷ []) r.name) (lives (es ++ held r ∷ []) r.name) (lives_last es) (lives_last es), tt),
    )

    gathered_live : Each (IsLiving (es ++ held r ∷ [])) (gathered_tasks me r es)
    gathered_live =
        all_append (IsLiving (es ++ held r ∷ [])) (cond (eqb r.owner me) (own_tasks r.name es) []) (filter_map (first_of me r.name) es)
        (elim (eqb r.owner me) as (λ b. Each (IsLiving (es ++ held r ∷ [])) (cond b (own_tasks r.name es) [])) [ true ↦ own_live | false ↦ tt ]) firsts_live

    pub fresh_tasks : Each (IsLiving (es ++ held r ∷ [])) (tasks_of me r es)
    fresh_tasks = subst (λ (ts : List Task). Each (IsLiving (es ++ held r ∷ [])) ts) (sym (same_tasks me r es)) gathered_live

pub rejoined_living : (t : Local) (owed : List Task) → Each (IsLiving t.known) t.owed → Each (IsLiving t.known) (rejoined t owed).owed
rejoined_living t owed fresh = all_append (IsLiving t.known) (filter (is_living t.known) owed) t.owed (filter_passes (is_living t.known) owed) fresh
