-- What a covered name and a new arrival do to the owed tasks.
use Rattle.std.proofs.Common.{◌≡◌, ◌∙◌, ◌⊎◌, inl, inr, ℕ, ◌+◌, ◌<◌, ◌≤◌, Bool, true, false, not, ◌&&◌, ◌||◌, cond, if◌then◌else◌, List, [], ◌∷◌, ◌++◌, length, map, filter, take, drop, get_or, refl, sym, ap, arith, append_assoc}
use Rattle.std.proofs.lemmas.List.{take_all, drop_all, take-append-le, drop-append-le, take-map, drop-map, drop_more, map-append, append-nil, take-append-drop}
use Rattle.cd_names.specs.declared.names.Name.{Name}
use Rattle.cd_tasks.specs.declared.Task.{Task}
use Rattle.cd_tasks.specs.declared.Task.TheVariants.{Solo, Pair}
use Rattle.cd_tasks.specs.declared.Arrival.{Arrival}
use Rattle.cd_tasks.specs.declared.cursor.Stage.{Stage}
use Rattle.cd_tasks.specs.declared.cursor.Stage.TheVariants.{Alone, Second, First}
use Rattle.cd_tasks.specs.Order.{is_live, is_home, names_of, seconds, firsts, new_tasks, tasks_at, order, rest_at, at_hand, owed_at, owed_of}
use Rattle.cd_tasks.specs.Owing.{free_of, cover_one}
use Rattle.cd_names.specs.Names.{name_eq}
use Rattle.cd_tasks.proofs.Walking.{nobody}

pub filter_app : {A : Type 0} (test : A → Bool) (xs ys : List A) → filter test (xs ++ ys) ≡ filter test xs ++ filter test ys
filter_app test [] ys = refl
filter_app {A} test (x ∷ xs) ys = by (test x) (filter_app test xs ys)
  where
    by : (b : Bool) → filter test (xs ++ ys) ≡ filter test xs ++ filter test ys
        → cond b (x ∷ filter test (xs ++ ys)) (filter test (xs ++ ys)) ≡ cond b (x ∷ filter test xs) (filter test xs) ++ filter test ys
    by true e = ap (λ (zs : List A). x ∷ zs) e
    by false e = e

module _ (n : Name) where
  abbrev keep : Name → Bool
  keep m = not (name_eq m n)

  abbrev covers : Arrival → Arrival
  covers = cover_one n

  -- ---- names

  names_cons : (test : Arrival → Bool) (e : Arrival) (es : List Arrival) → names_of test (e ∷ es) ≡ cond (test e) (e.name ∷ names_of test es) (names_of test es)
  names_cons test e es = by (test e)
    where
      by : (b : Bool) → map (λ (a : Arrival). a.name) (cond b (e ∷ filter test es) (filter test es)) ≡ cond b (e.name ∷ names_of test es) (names_of test es)
      by true = refl
      by false = refl

  pushed : (b : Bool) (x : Name) (ns : List Name) → filter keep (cond b (x ∷ ns) ns) ≡ cond b (filter keep (x ∷ ns)) (filter keep ns)
  pushed true x ns = refl
  pushed false x ns = refl

  live_cases : (b v : Bool) (x : Name) (ns ms : List Name) → ms ≡ filter keep ns
      → cond (not (b || v)) (x ∷ ms) ms ≡ cond (not v) (cond (not b) (x ∷ filter keep ns) (filter keep ns)) (filter keep ns)
  live_cases true true x ns ms e = e
  live_cases true false x ns ms e = e
  live_cases false true x ns ms e = e
  live_cases false false x ns ms e = ap (λ (l : List Name). x ∷ l) e

  home_cases : (b v r : Bool) (x : Name) (ns ms : List Name) → ms ≡ filter keep ns
      → cond (not (b || v) && r) (x ∷ ms) ms ≡ cond (not v && r) (cond (not b) (x ∷ filter keep ns) (filter keep ns)) (filter keep ns)
  home_cases true true r x ns ms e = e
  home_cases true false true x ns ms e = e
  home_cases true false false x ns ms e = e
  home_cases false true r x ns ms e = e
  home_cases false false true x ns ms e = ap (λ (l : List Name). x ∷ l) e
  home_cases false false false x ns ms e = e

  pub live_covered : (es : List Arrival) → names_of is_live (map covers es) ≡ filter keep (names_of is_live es)
  live_covered [] = refl
  live_covered (e ∷ es) =
      names_cons is_live (covers e) (map covers es)
      ∙ live_cases (name_eq e.name n) e.covered e.name (names_of is_live es) (names_of is_live (map covers es)) (live_covered es)
      ∙ sym (ap (filter keep) (names_cons is_live e es) ∙ pushed (is_live e) e.name (names_of is_live es))

  pub home_covered : (es : List Arrival) → names_of is_home (map covers es) ≡ filter keep (names_of is_home es)
  home_covered [] = refl
  home_covered (e ∷ es) =
      names_cons is_home (covers e) (map covers es)
      ∙ home_cases (name_eq e.name n) e.covered e.resident e.name (names_of is_home es) (names_of is_home (map covers es)) (home_covered es)
      ∙ sym (ap (filter keep) (names_cons is_home e es) ∙ pushed (is_home e) e.name (names_of is_home es))

  -- ---- pairs

  or_true : (b : Bool) → (b || true) ≡ true
  or_true true = refl
  or_true false = refl

  or_false : (b : Bool) → (b || false) ≡ b
  or_false true = refl
  or_false false = refl

  -- a task whose names are judged apart
  second_free : (a k : Name) → name_eq a n ≡ false → free_of n (Pair k a) ≡ keep k
  second_free a k e = ap (λ (b : Bool). not (name_eq k n || b)) e ∙ ap not (or_false (name_eq k n))

  first_free : (a k : Name) → name_eq a n ≡ false → free_of n (Pair a k) ≡ keep k
  first_free a k e = ap (λ (b : Bool). not (b || name_eq k n)) e

  pairs_kept : (f : Name → Task) → ((k : Name) → free_of n (f k) ≡ keep k) → (ks : List Name) → filter (free_of n) (map f ks) ≡ map f (filter keep ks)
  pairs_kept f same [] = refl
  pairs_kept f same (k ∷ ks) =
      ap (λ (b : Bool). cond b (f k ∷ filter (free_of n) (map f ks)) (filter (free_of n) (map f ks))) (same k)
      ∙ by (keep k) (pairs_kept f same ks)
    where
      by : (b : Bool) → filter (free_of n) (map f ks) ≡ map f (filter keep ks)
          → cond b (f k ∷ filter (free_of n) (map f ks)) (filter (free_of n) (map f ks)) ≡ map f (cond b (k ∷ filter keep ks) (filter keep ks))
      by true e = ap (λ (ts : List Task). f k ∷ ts) e
      by false e = e

  pairs_lost : (f : Name → Task) → ((k : Name) → free_of n (f k) ≡ false) → (ks : List Name) → filter (free_of n) (map f ks) ≡ []
  pairs_lost f none [] = refl
  pairs_lost f none (k ∷ ks) =
      ap (λ (b : Bool). cond b (f k ∷ filter (free_of n) (map f ks)) (filter (free_of n) (map f ks))) (none k) ∙ pairs_lost f none ks

  seconds_kept : (a : Name) (es : List Arrival) → name_eq a n ≡ false → filter (free_of n) (seconds a es) ≡ seconds a (map covers es)
  seconds_kept a es e =
      pairs_kept (λ (k : Name). Pair k a) (λ k. second_free a k e) (names_of is_live es)
      ∙ ap (map (λ (k : Name). Pair k a)) (sym (live_covered es))

  firsts_kept : (a : Name) (es : List Arrival) → name_eq a n ≡ false → filter (free_of n) (firsts a es) ≡ firsts a (map covers es)
  firsts_kept a es e =
      pairs_kept (λ (k : Name). Pair a k) (λ k. first_free a k e) (names_of is_home es)
      ∙ ap (map (λ (k : Name). Pair a k)) (sym (home_covered es))

  seconds_lost : (a : Name) (es : List Arrival) → name_eq a n ≡ true → filter (free_of n) (seconds a es) ≡ []
  seconds_lost a es e = pairs_lost (λ (k : Name). Pair k a) (λ k. ap (λ (b : Bool). not (name_eq k n || b)) e ∙ ap not (or_true (name_eq k n))) (names_of is_live es)

  firsts_lost : (a : Name) (es : List Arrival) → name_eq a n ≡ true → filter (free_of n) (firsts a es) ≡ []
  firsts_lost a es e = pairs_lost (λ (k : Name). Pair a k) (λ k. ap (λ (b : Bool). not (b || name_eq k n)) e) (names_of is_home es)

  -- ---- the tasks of one arrival

  filter_one : (t : Task) (b : Bool) (ts : List Task) → free_of n t ≡ b → filter (free_of n) (t ∷ ts) ≡ cond b (t ∷ filter (free_of n) ts) (filter (free_of n) ts)
  filter_one t b ts e = ap (λ (c : Bool). cond c (t ∷ filter (free_of n) ts) (filter (free_of n) ts)) e

  itself_free : (a : Name) (b : Bool) → name_eq a n ≡ b → free_of n (Pair a a) ≡ not b
  itself_free a true e = λ i. not (e i || e i)
  itself_free a false e = λ i. not (e i || e i)

  new_kept : (a : Name) (r : Bool) (before : List Arrival) → name_eq a n ≡ false → filter (free_of n) (new_tasks a r before) ≡ new_tasks a r (map covers before)
  new_kept a true before e =
      filter_app (free_of n) (Solo a ∷ (seconds a before ++ Pair a a ∷ [])) (firsts a before)
      ∙ ap (λ (ts : List Task). ts ++ filter (free_of n) (firsts a before)) (
      filter_one (Solo a) true (seconds a before ++ Pair a a ∷ []) (ap not e)
      ∙ ap (λ (ts : List Task). Solo a ∷ ts) (
      filter_app (free_of n) (seconds a before) (Pair a a ∷ [])
      ∙ (λ i. seconds_kept a before e i ++ filter_one (Pair a a) true [] (itself_free a false e) i)))
      ∙ ap (λ (ts : List Task). (Solo a ∷ (seconds a (map covers before) ++ Pair a a ∷ [])) ++ ts) (firsts_kept a before e)
  new_kept a false before e = firsts_kept a before e

  new_lost : (a : Name) (r : Bool) (before : List Arrival) → name_eq a n ≡ true → filter (free_of n) (new_tasks a r before) ≡ []
  new_lost a true before e =
      filter_app (free_of n) (Solo a ∷ (seconds a before ++ Pair a a ∷ [])) (firsts a before)
      ∙ ap (λ (ts : List Task). ts ++ filter (free_of n) (firsts a before)) (
      filter_one (Solo a) false (seconds a before ++ Pair a a ∷ []) (ap not e)
      ∙ filter_app (free_of n) (seconds a before) (Pair a a ∷ [])
      ∙ (λ i. seconds_lost a before e i ++ filter_one (Pair a a) false [] (itself_free a true e) i))
      ∙ firsts_lost a before e
  new_lost a false before e = firsts_lost a before e

  rest_kept : (s : Stage) (a : Arrival) (before : List Arrival) → name_eq a.name n ≡ false → filter (free_of n) (rest_at s a before) ≡ rest_at s (covers a) (map covers before)
  rest_kept Alone a before e = new_kept a.name a.resident before e
  rest_kept (Second k) a before e =
      filter_app (free_of n) (seconds a.name (drop k before)) (Pair a.name a.name ∷ firsts a.name before)
      ∙ ap (λ (ts : List Task). ts ++ filter (free_of n) (Pair a.name a.name ∷ firsts a.name before))
      (seconds_kept a.name (drop k before) e ∙ ap (seconds a.name) (sym (drop-map covers k before)))
      ∙ ap (λ (ts : List Task). seconds a.name (drop k (map covers before)) ++ ts)
      (filter_one (Pair a.name a.name) true (firsts a.name before) (itself_free a.name false e)
      ∙ ap (λ (ts : List Task). Pair a.name a.name ∷ ts) (firsts_kept a.name before e))
  rest_kept (First k) a before e = firsts_kept a.name (drop k before) e ∙ ap (firsts a.name) (sym (drop-map covers k before))

  rest_lost : (s : Stage) (a : Arrival) (before : List Arrival) → name_eq a.name n ≡ true → filter (free_of n) (rest_at s a before) ≡ []
  rest_lost Alone a before e = new_lost a.name a.resident before e
  rest_lost (Second k) a before e =
      filter_app (free_of n) (seconds a.name (drop k before)) (Pair a.name a.name ∷ firsts a.name before)
      ∙ ap (λ (ts : List Task). ts ++ filter (free_of n) (Pair a.name a.name ∷ firsts a.name before)) (seconds_lost a.name (drop k before) e)
      ∙ filter_one (Pair a.name a.name) false (firsts a.name before) (itself_free a.name true e)
      ∙ firsts_lost a.name before e
  rest_lost (First k) a before e = firsts_lost a.name (drop k before) e

  hand_covered : (s : Stage) (a : Arrival) (before : List Arrival) → at_hand s (covers a) (map covers before) ≡ filter (free_of n) (at_hand s a before)
  hand_covered s a before = by (name_eq a.name n) refl a.covered
    where
      by : (b : Bool) → name_eq a.name n ≡ b → (v : Bool)
          → (if not (b || v) then rest_at s (covers a) (map covers before) else []) ≡ filter (free_of n) (if not v then rest_at s a before else [])
      by true e true = refl
      by true e false = sym (rest_lost s a before e)
      by false e true = refl
      by false e false = sym (rest_kept s a before e)

  pub order_covered : (before later : List Arrival) → order (map covers before) (map covers later) ≡ filter (free_of n) (order before later)
  order_covered before [] = refl
  order_covered before (a ∷ later) =
      ap (λ (b : List Arrival). tasks_at (covers a) (map covers before) ++ order b (map covers later)) (sym (map-append covers before (a ∷ [])))
      ∙ ap (λ (ts : List Task). ts ++ order (map covers (before ++ a ∷ [])) (map covers later)) (hand_covered Alone a before)
      ∙ ap (λ (ts : List Task). filter (free_of n) (tasks_at a before) ++ ts) (order_covered (before ++ a ∷ []) later)
      ∙ sym (filter_app (free_of n) (tasks_at a before) (order (before ++ a ∷ []) later))

  owed_at_covered : (s : Stage) (before later : List Arrival) → owed_at s (map covers before) (map covers later) ≡ filter (free_of n) (owed_at s before later)
  owed_at_covered s before [] = refl
  owed_at_covered s before (a ∷ later) =
      ap (λ (b : List Arrival). at_hand s (covers a) (map covers before) ++ order b (map covers later)) (sym (map-append covers before (a ∷ [])))
      ∙ (λ i. hand_covered s a before i ++ order_covered (before ++ a ∷ []) later i)
      ∙ sym (filter_app (free_of n) (at_hand s a before) (order (before ++ a ∷ []) later))

  -- the tasks with the name are taken out
  pub owed_covered : (es : List Arrival) (turn : ℕ) (s : Stage) → owed_of (map covers es) turn s ≡ filter (free_of n) (owed_of es turn s)
  unfolding owed_of
  owed_covered es turn s =
      (λ i. owed_at s (take-map covers turn es i) (drop-map covers turn es i))
      ∙ owed_at_covered s (take turn es) (drop turn es)

-- ---- a new arrival

pub order_more : (before later : List Arrival) (a : Arrival) → order before (later ++ a ∷ []) ≡ order before later ++ tasks_at a (before ++ later)
order_more before [] a = append-nil (tasks_at a before) ∙ ap (tasks_at a) (sym (append-nil before))
order_more before (b ∷ later) a =
    ap (λ (ts : List Task). tasks_at b before ++ ts) (order_more (before ++ b ∷ []) later a)
    ∙ ap (λ (es : List Arrival). tasks_at b before ++ (order (before ++ b ∷ []) later ++ tasks_at a es)) (append_assoc before (b ∷ []) later)
    ∙ sym (append_assoc (tasks_at b before) (order (before ++ b ∷ []) later) (tasks_at a (before ++ b ∷ later)))

owed_at_more : (s : Stage) (before : List Arrival) (b : Arrival) (later : List Arrival) (a : Arrival)
    → owed_at s before ((b ∷ later) ++ a ∷ []) ≡ owed_at s before (b ∷ later) ++ tasks_at a (before ++ b ∷ later)
owed_at_more s before b later a =
    ap (λ (ts : List Task). at_hand s b before ++ ts) (order_more (before ++ b ∷ []) later a)
    ∙ ap (λ (es : List Arrival). at_hand s b before ++ (order (before ++ b ∷ []) later ++ tasks_at a es)) (append_assoc before (b ∷ []) later)
    ∙ sym (append_assoc (at_hand s b before) (order (before ++ b ∷ []) later) (tasks_at a (before ++ b ∷ later)))

-- its tasks are owed behind the others: at the end of the order the stage is the first
pub owed_more : (es : List Arrival) (turn : ℕ) (s : Stage) (a : Arrival) → (turn < length es) ⊎ ((turn ≡ length es) × (s ≡ Alone))
    → owed_of (es ++ a ∷ []) turn s ≡ owed_of es turn s ++ tasks_at a es
unfolding owed_of
owed_more es turn s a (inl lt) =
    let le : turn ≤ length es = omega (arith, lt) in
    let before = take turn es in
    let b = get_or es turn nobody in
    let split = drop_more es turn nobody lt in
    (λ i. owed_at s (take-append-le turn es (a ∷ []) le i) (drop-append-le turn es (a ∷ []) le i))
    ∙ ap (λ (l : List Arrival). owed_at s before (l ++ a ∷ [])) split
    ∙ owed_at_more s before b (drop (turn + 1) es) a
    ∙ ap (λ (l : List Arrival). owed_at s before l ++ tasks_at a (before ++ l)) (sym split)
    ∙ ap (λ (l : List Arrival). owed_at s before (drop turn es) ++ tasks_at a l) (take-append-drop turn es)
owed_more es turn s a (inr (e, alone)) =
    let le : turn ≤ length es = omega (arith, e) in
    let past : length es ≤ turn = omega (arith, e) in
    (λ i. owed_at s (take-append-le turn es (a ∷ []) le i) (drop-append-le turn es (a ∷ []) le i))
    ∙ (λ i. owed_at (alone i) (take_all turn es past i) (drop_all turn es past i ++ a ∷ []))
    ∙ append-nil (tasks_at a es)
    ∙ ap (λ (l : List Arrival). owed_at s (take turn es) l ++ tasks_at a es) (sym (drop_all turn es past))
