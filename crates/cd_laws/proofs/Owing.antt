-- Each pair of held names is owed once, or done; and each name alone.
use Rattle.std.proofs.Common.{◌≡◌, ℕ, ◌+◌, ◌≤◌, Bool, true, false, ◌&&◌, ◌||◌, not, cond, eqb, List, [], ◌∷◌, ◌++◌, length, arith, refl, ap, ◌∙◌, subst}
use Rattle.std.specs.Prelude.{Option, Some, None}
use Rattle.cd_names.specs.declared.names.Name.{Name}
use Rattle.cd_names.specs.declared.How.{How}
use Rattle.cd_tasks.specs.declared.Task.{Task}
use Rattle.cd_tasks.specs.declared.Task.TheVariants.{Pair, Solo}
use Rattle.cd_ledger.specs.declared.items.Origin.{Origin}
use Rattle.cd_ledger.specs.declared.items.Item.{Item}
use Rattle.cd_ledger.specs.declared.records.Record.{Record}
use Rattle.cd_ledger.specs.declared.records.Status.{Status}
use Rattle.cd_ledger.specs.declared.records.Known.{Known}
use Rattle.cd_ledger.specs.declared.items.Outcome.{Outcome}
use Rattle.cd_ledger.specs.declared.items.Done.{Done}
use Rattle.cd_ledger.specs.declared.local.Local.{Local}
use Rattle.cd_list.specs.Lists.{tally}
use Rattle.std.specs.Prelude.{filter_map, is_some}
use Rattle.std.specs.List.{cons_option}
use Rattle.cd_names.specs.Names.{name_eq}
use Rattle.cd_ledger.specs.Records.{equations_of, is_of}
use Rattle.cd_ledger.specs.Statuses.{is_held, status_holds}
use Rattle.cd_machine.specs.Contraction.{hit_on, is_struck, loss, lost, struck, uncovered}
use Rattle.cd_tasks.specs.Owing.{touches}
use Rattle.cd_machine.specs.Arrivals.{held, joined, shelved, tasks_of}
use Rattle.cd_laws.proofs.Gathered.{first_of, gathered_tasks, own_tasks, same_tasks, second_of}
use Rattle.cd_machine.specs.Acts.{IsYield, Yield, resolution, resolved, taken, worked}
use Rattle.cd_machine.specs.Spread.{known_times}
use Rattle.cd_laws.specs.Sound.{Owes, OwesPair, OwesSolo, task_eq}
use Rattle.cd_laws.proofs.Lists.{and_true, some_none, tally_append, tally_filter, tally_gather, tally_none, tally_push, tally_remove, tally_same, tally_under}
use Rattle.cd_laws.proofs.Steps.{name_eq_true}
use Rattle.cd_laws.proofs.Strikes.{loss_held, resolution_held, resolve_entry, resolve_held, resolved_of, resolved_tally, strike_entry, strike_held, struck_tally}
use Rattle.cd_laws.proofs.Closure.{Keeps}
use Rattle.cd_kbo.specs.declared.order.Order.{Order}

-- how often a name stands among what passes k
abbrev times_by : (Bool → Record → Bool) → Name → List Known → ℕ
times_by k n es = tally (λ e. is_of n e && k (is_held e) e.entry) es

module _ (k : Bool → Record → Bool) (none : (r : Record) → k false r ≡ false) (n : Name) (me : ℕ) (hit : Known → Option How) (d : Name) where
  struck_times : (es : List Known) → tally (is_of n) es ≤ 1 → times_by k n (struck me hit d es) ≡ cond (is_struck hit es n) 0 (times_by k n es)
  struck_times [] u = refl
  struck_times (x ∷ xs) u =
      rw (strike_held me hit d x, strike_entry me hit d x)
      (go (is_of n x) (is_held x) (is_some (hit_on hit x)) refl u (struck_times xs)
      (omega (arith, tally_under (is_of n) (λ e. k (is_held e) e.entry) (struck me hit d xs), struck_tally n me hit d xs))
      (tally_under (is_of n) (λ e. k (is_held e) e.entry) xs)
      (some_none (is_of n) (λ e. is_some (hit_on hit e)) xs))
    where
      go : (a b c : Bool) → is_of n x ≡ a → cond a 1 0 + tally (is_of n) xs ≤ 1
          → (tally (is_of n) xs ≤ 1 → times_by k n (struck me hit d xs) ≡ cond (is_struck hit xs n) 0 (times_by k n xs))
          → times_by k n (struck me hit d xs) ≤ tally (is_of n) xs
          → times_by k n xs ≤ tally (is_of n) xs
          → (tally (is_of n) xs ≡ 0 → is_struck hit xs n ≡ false)
          → cond (a && k (b && not c) x.entry) 1 0 + times_by k n (struck me hit d xs)
          ≡ cond ((a && c) || is_struck hit xs n) 0 (cond (a && k b x.entry) 1 0 + times_by k n xs)
      go false b c e u ih lo hi no' = rw (ih (omega arith)) (elim (is_struck hit xs n) as (λ v. 0 + cond v 0 (times_by k n xs) ≡ cond v 0 (0 + times_by k n xs)) [ true ↦ refl | false ↦ refl ])
      go true true true e u ih lo hi no' = rw (none x.entry) (omega arith)
      go true false true e u ih lo hi no' = rw (none x.entry) (omega arith)
      go true true false e u ih lo hi no' = rw (no' (omega arith)) (omega arith)
      go true false false e u ih lo hi no' = rw (none x.entry, no' (omega arith)) (omega arith)

pub held_struck : (n : Name) (me : ℕ) (hit : Known → Option How) (d : Name) (es : List Known) → tally (is_of n) es ≤ 1
    → tally (λ e. is_of n e && is_held e) (struck me hit d es) ≡ cond (is_struck hit es n) 0 (tally (λ e. is_of n e && is_held e) es)
held_struck n me hit d es u = struck_times (λ b r. b) (λ r. refl) n me hit d es u

home_struck : (n : Name) (me : ℕ) (hit : Known → Option How) (d : Name) (es : List Known) → tally (is_of n) es ≤ 1
    → tally (λ e. is_of n e && (is_held e && eqb e.entry.owner me)) (struck me hit d es) ≡ cond (is_struck hit es n) 0 (tally (λ e. is_of n e && (is_held e && eqb e.entry.owner me)) es)
home_struck n me hit d es u = struck_times (λ b r. b && eqb r.owner me) (λ r. refl) n me hit d es u

flip : {A : Type 0} (c : Bool) (x y : A) → cond (not c) x y ≡ cond c y x
flip true x y = refl
flip false x y = refl

uncovered_pair : (a b : Name) (hit : Known → Option How) (es : List Known) (ts : List Task) → tally (task_eq (Pair a b)) (uncovered hit es ts) ≡ cond (is_struck hit es a || is_struck hit es b) 0 (tally (task_eq (Pair a b)) ts)
uncovered_pair a b hit es ts =
    tally_filter (task_eq (Pair a b)) (λ t. not (touches (is_struck hit es) t)) (not (is_struck hit es a || is_struck hit es b)) same ts
    ∙ flip (is_struck hit es a || is_struck hit es b) (tally (task_eq (Pair a b)) ts) 0
  where
    same : (t : Task) → task_eq (Pair a b) t ≡ true → not (touches (is_struck hit es) t) ≡ not (is_struck hit es a || is_struck hit es b)
    same (Solo c) h = absurd cc
    same (Pair c d) h = let g = and_true (name_eq c a) (name_eq d b) h in let x = name_eq_true c a g.0 in let y = name_eq_true d b g.1 in
        ap (λ n. not (is_struck hit es n || is_struck hit es d)) x ∙ ap (λ n. not (is_struck hit es a || is_struck hit es n)) y

uncovered_solo : (a : Name) (hit : Known → Option How) (es : List Known) (ts : List Task) → tally (task_eq (Solo a)) (uncovered hit es ts) ≡ cond (is_struck hit es a) 0 (tally (task_eq (Solo a)) ts)
uncovered_solo a hit es ts =
    tally_filter (task_eq (Solo a)) (λ t. not (touches (is_struck hit es) t)) (not (is_struck hit es a)) same ts
    ∙ flip (is_struck hit es a) (tally (task_eq (Solo a)) ts) 0
  where
    same : (t : Task) → task_eq (Solo a) t ≡ true → not (touches (is_struck hit es) t) ≡ not (is_struck hit es a)
    same (Solo c) h = ap (λ n. not (is_struck hit es n)) (name_eq_true c a h)
    same (Pair c d) h = absurd cc

-- the tasks of a new name
put_if : (p : Task → Bool) (b : Bool) (t : Task) → tally p (cons_option (cond b (Some t) None) []) ≡ cond (b && p t) 1 0
put_if p true t = omega arith
put_if p false t = refl

seconds_pair : (a b n : Name) (es : List Known) → tally (task_eq (Pair a b)) (filter_map (second_of n) es) ≡ cond (name_eq n b) (tally (λ e. is_of a e && is_held e) es) 0
seconds_pair a b n es =
    tally_gather (task_eq (Pair a b)) (second_of n) (λ e. is_held e && (is_of a e && name_eq n b)) (λ e. put_if (task_eq (Pair a b)) (is_held e) (Pair e.entry.name n)) es ∙ go (name_eq n b)
  where
    go : (c : Bool) → tally (λ e. is_held e && (is_of a e && c)) es ≡ cond c (tally (λ e. is_of a e && is_held e) es) 0
    go true = tally_same _ _ (λ e. two (is_held e) (is_of a e)) es
      where
        two : (x y : Bool) → (x && (y && true)) ≡ (y && x)
        two true true = refl
        two true false = refl
        two false true = refl
        two false false = refl
    go false = tally_none _ (λ e. two (is_held e) (is_of a e)) es
      where
        two : (x y : Bool) → (x && (y && false)) ≡ false
        two true true = refl
        two true false = refl
        two false y = refl

firsts_pair : (a b : Name) (me : ℕ) (n : Name) (es : List Known) → tally (task_eq (Pair a b)) (filter_map (first_of me n) es) ≡ cond (name_eq n a) (tally (λ e. is_of b e && (is_held e && eqb e.entry.owner me)) es) 0
firsts_pair a b me n es =
    tally_gather (task_eq (Pair a b)) (first_of me n) (λ e. (is_held e && eqb e.entry.owner me) && (name_eq n a && is_of b e)) (λ e. put_if (task_eq (Pair a b)) (is_held e && eqb e.entry.owner me) (Pair n e.entry.name)) es ∙ go (name_eq n a)
  where
    go : (c : Bool) → tally (λ e. (is_held e && eqb e.entry.owner me) && (c && is_of b e)) es ≡ cond c (tally (λ e. is_of b e && (is_held e && eqb e.entry.owner me)) es) 0
    go true = tally_same _ _ (λ e. two (is_held e && eqb e.entry.owner me) (is_of b e)) es
      where
        two : (x y : Bool) → (x && y) ≡ (y && x)
        two true true = refl
        two true false = refl
        two false true = refl
        two false false = refl
    go false = tally_none _ (λ e. two (is_held e && eqb e.entry.owner me)) es
      where
        two : (x : Bool) → (x && false) ≡ false
        two true = refl
        two false = refl

gather_solo : (a : Name) (f : Known → Option Task) → ((e : Known) → tally (task_eq (Solo a)) (cons_option (f e) []) ≡ 0) → (es : List Known) → tally (task_eq (Solo a)) (filter_map f es) ≡ 0
gather_solo a f h es = tally_gather (task_eq (Solo a)) f (λ e. false) h es ∙ tally_none (λ e. false) (λ e. refl) es

second_solo : (a n : Name) (e : Known) → tally (task_eq (Solo a)) (cons_option (second_of n e) []) ≡ 0
second_solo a n e = elim (is_held e) as (λ b. tally (task_eq (Solo a)) (cons_option (cond b (Some (Pair e.entry.name n)) None) []) ≡ 0) [ true ↦ omega arith | false ↦ refl ]

first_solo : (a : Name) (me : ℕ) (n : Name) (e : Known) → tally (task_eq (Solo a)) (cons_option (first_of me n e) []) ≡ 0
first_solo a me n e = elim (is_held e && eqb e.entry.owner me) as (λ b. tally (task_eq (Solo a)) (cons_option (cond b (Some (Pair n e.entry.name)) None) []) ≡ 0) [ true ↦ omega arith | false ↦ refl ]

new_pair : (a b : Name) (me : ℕ) (r : Record) (es : List Known) → tally (task_eq (Pair a b)) (gathered_tasks me r es)
    ≡ cond (eqb r.owner me) (cond (name_eq r.name b) (tally (λ e. is_of a e && is_held e) es) 0 + cond (name_eq r.name a && name_eq r.name b) 1 0) 0
    + cond (name_eq r.name a) (tally (λ e. is_of b e && (is_held e && eqb e.entry.owner me)) es) 0
new_pair a b me r es =
    let t = tally_append (task_eq (Pair a b)) (cond (eqb r.owner me) (own_tasks r.name es) []) (filter_map (first_of me r.name) es) in
    let f = firsts_pair a b me r.name es in
    let g = go (eqb r.owner me) in
    omega (arith, t, f, g)
  where
    go : (c : Bool) → tally (task_eq (Pair a b)) (cond c (own_tasks r.name es) []) ≡ cond c (cond (name_eq r.name b) (tally (λ e. is_of a e && is_held e) es) 0 + cond (name_eq r.name a && name_eq r.name b) 1 0) 0
    go true = let x = tally_push (task_eq (Pair a b)) (filter_map (second_of r.name) es) (Pair r.name r.name) in let y = seconds_pair a b r.name es in omega (arith, x, y)
    go false = refl

new_solo : (a : Name) (me : ℕ) (r : Record) (es : List Known) → tally (task_eq (Solo a)) (gathered_tasks me r es) ≡ cond (eqb r.owner me) (cond (name_eq r.name a) 1 0) 0
new_solo a me r es =
    let t = tally_append (task_eq (Solo a)) (cond (eqb r.owner me) (own_tasks r.name es) []) (filter_map (first_of me r.name) es) in
    let f = gather_solo a (first_of me r.name) (first_solo a me r.name) es in
    let g = go (eqb r.owner me) in
    omega (arith, t, f, g)
  where
    go : (c : Bool) → tally (task_eq (Solo a)) (cond c (own_tasks r.name es) []) ≡ cond c (cond (name_eq r.name a) 1 0) 0
    go true = let x = tally_push (task_eq (Solo a)) (filter_map (second_of r.name) es) (Pair r.name r.name) in let y = gather_solo a (second_of r.name) (second_solo a r.name) es in omega (arith, x, y)
    go false = refl

tasks_pair : (a b : Name) (me : ℕ) (r : Record) (es : List Known) → tally (task_eq (Pair a b)) (tasks_of me r es)
    ≡ cond (eqb r.owner me) (cond (name_eq r.name b) (tally (λ e. is_of a e && is_held e) es) 0 + cond (name_eq r.name a && name_eq r.name b) 1 0) 0
    + cond (name_eq r.name a) (tally (λ e. is_of b e && (is_held e && eqb e.entry.owner me)) es) 0
tasks_pair a b me r es = ap (λ (ts : List Task). tally (task_eq (Pair a b)) ts) (same_tasks me r es) ∙ new_pair a b me r es

tasks_solo : (a : Name) (me : ℕ) (r : Record) (es : List Known) → tally (task_eq (Solo a)) (tasks_of me r es) ≡ cond (eqb r.owner me) (cond (name_eq r.name a) 1 0) 0
tasks_solo a me r es = ap (λ (ts : List Task). tally (task_eq (Solo a)) ts) (same_tasks me r es) ∙ new_solo a me r es

-- sums
struck_sums : (sa sb : Bool) (h m o d ka kb : ℕ) → Owes h m o d ka kb → Owes (cond sa 0 h) (cond sb 0 m) (cond (sa || sb) 0 o) d ka kb
struck_sums true sb h m o d ka kb i = record { both = λ x y. absurd (omega arith); first = λ _. refl; second = λ _. refl; once = omega (arith, i.once); known_first = i.known_first; known_second = i.known_second }
struck_sums false true h m o d ka kb i = record { both = λ x y. absurd (omega arith); first = λ _. refl; second = λ _. refl; once = omega (arith, i.once); known_first = i.known_first; known_second = i.known_second }
struck_sums false false h m o d ka kb i = i

struck_solo : (s : Bool) (h o d k : ℕ) → Owes h h o d k k → Owes (cond s 0 h) (cond s 0 h) (cond s 0 o) d k k
struck_solo true h o d k i = record { both = λ x y. absurd (omega arith); first = λ _. refl; second = λ _. refl; once = omega (arith, i.once); known_first = i.known_first; known_second = i.known_second }
struck_solo false h o d k i = i

arrive_sums : (ra rb own : Bool) (h m o d ka kb : ℕ) → (ra ≡ true → ka ≡ 0) → (rb ≡ true → kb ≡ 0) → h ≤ ka → m ≤ kb → h ≤ 1 → m ≤ 1 → Owes h m o d ka kb
    → Owes (h + cond ra 1 0) (m + cond (rb && own) 1 0) (o + (cond own (cond rb h 0 + cond (ra && rb) 1 0) 0 + cond ra m 0)) d (ka + cond ra 1 0) (kb + cond rb 1 0)
arrive_sums true true true h m o d ka kb f g x y h1 m1 i =
    let a = f refl in let b = g refl in let p = i.first (omega arith) in let q = i.known_first a in
    record { both = λ u v. omega arith; first = λ u. omega arith; second = λ u. omega arith; once = omega arith; known_first = λ _. q; known_second = λ _. q }
arrive_sums true true false h m o d ka kb f g x y h1 m1 i =
    let a = f refl in let b = g refl in let p = i.first (omega arith) in let q = i.known_first a in
    record { both = λ u v. omega arith; first = λ u. omega arith; second = λ u. omega arith; once = omega arith; known_first = λ _. q; known_second = λ _. q }
arrive_sums true false own h m o d ka kb f g x y h1 m1 i =
    let a = f refl in let p = i.first (omega arith) in let q = i.known_first a in
    let e : cond own (cond false h 0 + cond false 1 0) 0 ≡ 0 = elim own as (λ v. ◌≡◌ {A = ℕ} (cond v (cond false h 0 + cond false 1 0) 0) 0) [ true ↦ omega arith | false ↦ refl ] in
    rw e (record { both = λ u v. omega arith; first = λ u. omega arith; second = λ u. omega arith; once = omega arith; known_first = λ _. q; known_second = λ _. q })
arrive_sums false true true h m o d ka kb f g x y h1 m1 i =
    let b = g refl in let p = i.second (omega arith) in let q = i.known_second b in
    record { both = λ u v. omega arith; first = λ u. omega arith; second = λ u. omega arith; once = omega arith; known_first = λ _. q; known_second = λ _. q }
arrive_sums false true false h m o d ka kb f g x y h1 m1 i =
    let b = g refl in let p = i.second (omega arith) in let q = i.known_second b in
    record { both = λ u v. omega arith; first = λ u. omega arith; second = λ u. omega arith; once = omega arith; known_first = λ _. q; known_second = λ _. q }
arrive_sums false false own h m o d ka kb f g x y h1 m1 i =
    let e : cond own (cond false h 0 + cond false 1 0) 0 ≡ 0 = elim own as (λ v. ◌≡◌ {A = ℕ} (cond v (cond false h 0 + cond false 1 0) 0) 0) [ true ↦ omega arith | false ↦ refl ] in
    rw e (record {
      both = λ u v. (let w = i.both (omega arith) (omega arith) in omega arith);
      first = λ u. (let w = i.first (omega arith) in omega arith);
      second = λ u. (let w = i.second (omega arith) in omega arith);
      once = omega (arith, i.once);
      known_first = λ u. i.known_first (omega arith);
      known_second = λ u. i.known_second (omega arith);
    })

arrive_solo : (ra own : Bool) (m o d k : ℕ) → (ra ≡ true → k ≡ 0) → m ≤ k → Owes m m o d k k
    → Owes (m + cond (ra && own) 1 0) (m + cond (ra && own) 1 0) (o + cond own (cond ra 1 0) 0) d (k + cond ra 1 0) (k + cond ra 1 0)
arrive_solo true true m o d k f x i =
    let a = f refl in let p = i.first (omega arith) in let q = i.known_first a in
    record { both = λ u v. omega arith; first = λ u. omega arith; second = λ u. omega arith; once = omega arith; known_first = λ _. q; known_second = λ _. q }
arrive_solo true false m o d k f x i =
    let a = f refl in let p = i.first (omega arith) in let q = i.known_first a in
    record { both = λ u v. omega arith; first = λ u. omega arith; second = λ u. omega arith; once = omega arith; known_first = λ _. q; known_second = λ _. q }
arrive_solo false own m o d k f x i =
    let e : cond own (cond false 1 0) 0 ≡ 0 = elim own as (λ v. ◌≡◌ {A = ℕ} (cond v (cond false 1 0) 0) 0) [ true ↦ refl | false ↦ refl ] in
    rw e (record {
      both = λ u v. (let w = i.both (omega arith) (omega arith) in omega arith);
      first = λ u. (let w = i.first (omega arith) in omega arith);
      second = λ u. (let w = i.second (omega arith) in omega arith);
      once = omega (arith, i.once);
      known_first = λ u. i.known_first (omega arith);
      known_second = λ u. i.known_second (omega arith);
    })

work_sums : (c h m o o' d ka kb : ℕ) → o ≡ o' + c → h ≤ ka → m ≤ kb → Owes h m o d ka kb → Owes h m o' (d + c) ka kb
work_sums c h m o o' d ka kb e x y i = record {
  both = λ u v. (let w = i.both u v in omega arith);
  first = λ u. (let w = i.first u in omega arith);
  second = λ u. (let w = i.second u in omega arith);
  once = omega (arith, i.once);
  known_first = λ u. (let w = i.known_first u in let z = i.first (omega arith) in omega arith);
  known_second = λ u. (let w = i.known_second u in let z = i.second (omega arith) in omega arith);
}

more_known : (h m o d ka kb x y : ℕ) → Owes h m o d ka kb → Owes (h + 0) (m + 0) o d (ka + x) (kb + y)
more_known h m o d ka kb x y i = record {
  both = λ u v. i.both (omega arith) (omega arith);
  first = λ u. i.first (omega arith);
  second = λ u. i.second (omega arith);
  once = i.once;
  known_first = λ u. i.known_first (omega arith);
  known_second = λ u. i.known_second (omega arith);
}

and_is : (c : Bool) → (c && true) ≡ c
and_is true = refl
and_is false = refl

and_no : (c : Bool) → (c && false) ≡ false
and_no true = refl
and_no false = refl

-- what each part of an event keeps
pub record IsOwing (s : Local) : Type 0 where
  pub once : (n : Name) → known_times n s ≤ 1
  pub pairs : (a b : Name) → OwesPair s a b
  pub solos : (a : Name) → OwesSolo s a

held_resolved : (a : Name) (o : Origin) (st : Status) → status_holds st ≡ false → (es : List Known) → tally (λ e. is_of a e && is_held e) (resolved o st es) ≡ tally (λ e. is_of a e && is_held e) es
held_resolved a o st n es = resolved_tally (λ e. is_of a e && is_held e) o st (λ m e. rw (resolve_entry m st e, resolve_held m st e n) refl) es

home_resolved : (a : Name) (me : ℕ) (o : Origin) (st : Status) → status_holds st ≡ false → (es : List Known)
    → tally (λ e. is_of a e && (is_held e && eqb e.entry.owner me)) (resolved o st es) ≡ tally (λ e. is_of a e && (is_held e && eqb e.entry.owner me)) es
home_resolved a me o st n es = resolved_tally (λ e. is_of a e && (is_held e && eqb e.entry.owner me)) o st (λ m e. rw (resolve_entry m st e, resolve_held m st e n) refl) es

owing_taken : (s : Local) (place : ℕ) (i : Item) (o : Outcome) → IsOwing s → IsOwing (taken s place i o)
owing_taken s place i o h =
    let st = resolution o (equations_of i.steps) in
    let n = resolution_held o (equations_of i.steps) in
    record {
      once = λ m. (let e = resolved_of m i.origin st s.known in let f = h.once m in omega (arith, e, f));
      pairs = λ a b. rw (held_resolved a i.origin st n s.known, home_resolved b s.me i.origin st n s.known, resolved_of a i.origin st s.known, resolved_of b i.origin st s.known) (h.pairs a b);
      solos = λ a. rw (home_resolved a s.me i.origin st n s.known, resolved_of a i.origin st s.known) (h.solos a);
    }

owing_lost : (s : Local) (hit : Known → Option How) (d : Name) → IsOwing s → IsOwing (lost s hit d)
owing_lost s hit d h = record {
  once = λ m. (let e = struck_tally m s.me hit d s.known in let f = h.once m in omega (arith, e, f));
  pairs = λ a b. rw (held_struck a s.me hit d s.known (h.once a), home_struck b s.me hit d s.known (h.once b), uncovered_pair a b hit s.known s.owed, struck_tally a s.me hit d s.known, struck_tally b s.me hit d s.known)
      (struck_sums (is_struck hit s.known a) (is_struck hit s.known b) _ _ _ _ _ _ (h.pairs a b));
  solos = λ a. rw (home_struck a s.me hit d s.known (h.once a), uncovered_solo a hit s.known s.owed, struck_tally a s.me hit d s.known)
      (struck_solo (is_struck hit s.known a) _ _ _ _ (h.solos a));
}

fresh_name : (a : Name) (s : Local) (r : Record) → known_times r.name s ≡ 0 → name_eq r.name a ≡ true → known_times a s ≡ 0
fresh_name a s r fresh e = subst (λ (k : Name). tally (is_of k) s.known ≡ 0) (name_eq_true r.name a e) fresh

fresh_once : (m : Name) (s : Local) (e : Known) → tally (is_of e.entry.name) s.known ≡ 0 → tally (is_of m) s.known ≤ 1 → tally (is_of m) (s.known ++ e ∷ []) ≤ 1
fresh_once m s e fresh few = go (name_eq e.entry.name m) refl (tally_push (is_of m) s.known e)
  where
    go : (b : Bool) → name_eq e.entry.name m ≡ b → tally (is_of m) (s.known ++ e ∷ []) ≡ tally (is_of m) s.known + cond b 1 0 → tally (is_of m) (s.known ++ e ∷ []) ≤ 1
    go true x y = let z : tally (is_of m) s.known ≡ 0 = fresh_name m s e.entry fresh x in omega (arith, y, z)
    go false x y = omega (arith, y, few)

owing_joined : (s : Local) (r : Record) → known_times r.name s ≡ 0 → IsOwing s → IsOwing (joined s r)
owing_joined s r z h = record {
  once = λ m. fresh_once m s (held r) z (h.once m);
  pairs = λ a b.
      rw (
        tally_push (λ e. is_of a e && is_held e) s.known (held r),
        tally_push (λ e. is_of b e && (is_held e && eqb e.entry.owner s.me)) s.known (held r),
        tally_append (task_eq (Pair a b)) s.owed (tasks_of s.me r s.known),
        tasks_pair a b s.me r s.known,
        tally_push (is_of a) s.known (held r),
        tally_push (is_of b) s.known (held r),
      )
      (rw (and_is (name_eq r.name a)) (arrive_sums (name_eq r.name a) (name_eq r.name b) (eqb r.owner s.me) _ _ _ _ _ _
      (fresh_name a s r z) (fresh_name b s r z)
      (tally_under (is_of a) is_held s.known) (tally_under (is_of b) (λ e. is_held e && eqb e.entry.owner s.me) s.known)
      (let k = tally_under (is_of a) is_held s.known in let m = h.once a in omega arith) (let k = tally_under (is_of b) (λ e. is_held e && eqb e.entry.owner s.me) s.known in let m = h.once b in omega arith) (h.pairs a b)));
  solos = λ a.
      rw (
        tally_push (λ e. is_of a e && (is_held e && eqb e.entry.owner s.me)) s.known (held r),
        tally_append (task_eq (Solo a)) s.owed (tasks_of s.me r s.known),
        tasks_solo a s.me r s.known,
        tally_push (is_of a) s.known (held r),
      )
      (arrive_solo (name_eq r.name a) (eqb r.owner s.me) _ _ _ _ (fresh_name a s r z) (tally_under (is_of a) (λ e. is_held e && eqb e.entry.owner s.me) s.known) (h.solos a));
}

owing_shelved : (s : Local) (r : Record) (d : Name) (w : How) → known_times r.name s ≡ 0 → IsOwing s → IsOwing (shelved s r d w)
owing_shelved s r d w z h =
    let x : Known = record { entry = r; status = loss s.me d w r } in
    record {
      once = λ m. fresh_once m s x z (h.once m);
      pairs = λ a b.
          rw (
            tally_push (λ e. is_of a e && is_held e) s.known x,
            tally_push (λ e. is_of b e && (is_held e && eqb e.entry.owner s.me)) s.known x,
            tally_push (is_of a) s.known x,
            tally_push (is_of b) s.known x,
            loss_held s.me d w r,
          )
          (rw (and_no (name_eq r.name a), and_no (name_eq r.name b)) (more_known _ _ _ _ _ _ _ _ (h.pairs a b)));
      solos = λ a.
          rw (tally_push (λ e. is_of a e && (is_held e && eqb e.entry.owner s.me)) s.known x, tally_push (is_of a) s.known x, loss_held s.me d w r)
          (rw (and_no (name_eq r.name a)) (more_known _ _ _ _ _ _ _ _ (h.solos a)));
    }

owing_worked : (order : Order) → (s : Local) (task : Task) (y : Yield) → IsYield order s task y → IsOwing s → IsOwing (worked s task y)
owing_worked order s task y is h =
    let out : (p : Task → Bool) → tally p s.owed ≡ tally p y.others + cond (p task) 1 0 = λ p. rw is.takes.rest (tally_remove p s.owed is.takes.place task is.takes.there) in
    let new : Done = record { task = task; conclusions = length y.found } in
    record {
      once = h.once;
      pairs = λ a b. rw (tally_push (λ d. task_eq (Pair a b) d.task) s.done new)
          (work_sums (cond (task_eq (Pair a b) task) 1 0) _ _ _ _ _ _ _ (out (task_eq (Pair a b))) (tally_under (is_of a) is_held s.known) (tally_under (is_of b) (λ e. is_held e && eqb e.entry.owner s.me) s.known) (h.pairs a b));
      solos = λ a. rw (tally_push (λ d. task_eq (Solo a) d.task) s.done new)
          (work_sums (cond (task_eq (Solo a) task) 1 0) _ _ _ _ _ _ _ (out (task_eq (Solo a))) (tally_under (is_of a) (λ e. is_held e && eqb e.entry.owner s.me) s.known) (tally_under (is_of a) (λ e. is_held e && eqb e.entry.owner s.me) s.known) (h.solos a));
    }

pub owing_keeps : (order : Order) → Keeps order IsOwing
owing_keeps order = record {
  frame = λ s w t x k u l v j h. record { once = h.once; pairs = h.pairs; solos = h.solos };
  taken = λ s place i o there h. owing_taken s place i o h;
  lost = owing_lost;
  joined = λ s r fresh calm h. owing_joined s r fresh h;
  shelved = owing_shelved;
  replaced = λ s place i j there same h. record { once = h.once; pairs = h.pairs; solos = h.solos };
  worked = owing_worked order;
}
