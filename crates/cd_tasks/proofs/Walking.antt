-- What is left of the order, a step on.
use Rattle.std.proofs.Common.{◌≡◌, ◌∙◌, ℕ, zero, suc, ◌+◌, ◌-◌, ◌<◌, ◌≤◌, Bool, true, false, not, cond, if◌then◌else◌, List, [], ◌∷◌, ◌++◌, length, map, filter, take, drop, get_or, refl, sym, ap, subst, arith, append_assoc}
use Rattle.std.proofs.lemmas.List.{drop_more, take_more, drop_all, get_or-take, length-take-le}
use Rattle.std.proofs.lemmas.Bool.{and_parts}
use Rattle.cd_names.specs.declared.names.Name.{Name}
use Rattle.cd_tasks.specs.declared.Task.{Task}
use Rattle.cd_tasks.specs.declared.Task.TheVariants.{Solo, Pair}
use Rattle.cd_tasks.specs.declared.Arrival.{Arrival}
use Rattle.cd_tasks.specs.declared.cursor.Stage.{Stage}
use Rattle.cd_tasks.specs.declared.cursor.Stage.TheVariants.{Alone, Second, First}
use Rattle.cd_tasks.specs.Order.{is_live, is_home, names_of, seconds, firsts, new_tasks, order, rest_at, at_hand, owed_at, owed_of}
use Rattle.cd_tasks.specs.Links.{passes_at, NonePass}
use Rattle.cd_tasks.proofs.Passing.{passes_get}

abbrev pub nobody : Arrival
nobody = record { name = record { peer = 0; seq = 0 }; resident = false; covered = false }

-- ---- names that pass, from a place on

one_passed : (test : Arrival → Bool) (es : List Arrival) (turn k : ℕ) → turn ≤ length es → k < turn → passes_at test es k ≡ false
    → names_of test (drop k (take turn es)) ≡ names_of test (drop (k + 1) (take turn es))
one_passed test es turn k within lt fails =
    let there : k < length (take turn es) = omega (arith, length-take-le turn es within, lt) in
    let failed : test (get_or es k nobody) ≡ false = sym (passes_get test es k nobody (omega (arith, within, lt))) ∙ fails in
    ap (names_of test) (drop_more (take turn es) k nobody there)
    ∙ ap (λ (x : Arrival). names_of test (x ∷ drop (k + 1) (take turn es))) (get_or-take turn es k nobody lt)
    ∙ ap (λ (b : Bool). map (λ (a : Arrival). a.name) (cond b (get_or es k nobody ∷ filter test (drop (k + 1) (take turn es))) (filter test (drop (k + 1) (take turn es))))) failed

one_there : (test : Arrival → Bool) (es : List Arrival) (turn k : ℕ) (d : Arrival) → turn ≤ length es → k < turn → passes_at test es k ≡ true
    → names_of test (drop k (take turn es)) ≡ (get_or es k d).name ∷ names_of test (drop (k + 1) (take turn es))
one_there test es turn k d within lt passes =
    let there : k < length (take turn es) = omega (arith, length-take-le turn es within, lt) in
    let passed : test (get_or es k d) ≡ true = sym (passes_get test es k d (omega (arith, within, lt))) ∙ passes in
    ap (names_of test) (drop_more (take turn es) k d there)
    ∙ ap (λ (x : Arrival). names_of test (x ∷ drop (k + 1) (take turn es))) (get_or-take turn es k d lt)
    ∙ ap (λ (b : Bool). map (λ (a : Arrival). a.name) (cond b (get_or es k d ∷ filter test (drop (k + 1) (take turn es))) (filter test (drop (k + 1) (take turn es))))) passed

more_passed : (test : Arrival → Bool) (es : List Arrival) (turn : ℕ) → turn ≤ length es → (n k : ℕ) → k + n ≤ turn → NonePass test es k (k + n)
    → names_of test (drop k (take turn es)) ≡ names_of test (drop (k + n) (take turn es))
unfolding NonePass
more_passed test es turn within zero k le none = ap (λ (i : ℕ). names_of test (drop i (take turn es))) (omega arith)
more_passed test es turn within (suc n) k le none =
    let lt : k < turn = omega (arith, le) in
    let next : (k + 1) + n ≡ k + suc n = omega arith in
    one_passed test es turn k within lt (none k (omega arith) (omega arith))
    ∙ more_passed test es turn within n (k + 1) (omega (arith, le, next)) (λ i from to. none i (omega (arith, from)) (omega (arith, to, next)))
    ∙ ap (λ (i : ℕ). names_of test (drop i (take turn es))) next

pub none_names : (test : Arrival → Bool) (es : List Arrival) (turn j k : ℕ) → turn ≤ length es → j ≤ k → k ≤ turn → NonePass test es j k
    → names_of test (drop j (take turn es)) ≡ names_of test (drop k (take turn es))
none_names test es turn j k within le last none =
    let e : j + (k - j) ≡ k = omega (arith, le) in
    more_passed test es turn within (k - j) j (omega (arith, e, last)) (subst (NonePass test es j) (sym e) none)
    ∙ ap (λ (i : ℕ). names_of test (drop i (take turn es))) e

-- ---- the order from an arrival on

pub alone_order : (before later : List Arrival) → owed_at Alone before later ≡ order before later
alone_order before [] = refl
alone_order before (a ∷ later) = refl

pub owed_split : (es : List Arrival) (turn : ℕ) (stage : Stage) (d : Arrival) → turn < length es
    → owed_of es turn stage ≡ at_hand stage (get_or es turn d) (take turn es) ++ owed_of es (turn + 1) Alone
unfolding owed_of
owed_split es turn stage d within =
    let a = get_or es turn d in
    ap (owed_at stage (take turn es)) (drop_more es turn d within)
    ∙ ap (λ (b : List Arrival). at_hand stage a (take turn es) ++ order b (drop (turn + 1) es)) (sym (take_more es turn d within))
    ∙ ap (λ (ts : List Task). at_hand stage a (take turn es) ++ ts) (sym (alone_order (take (turn + 1) es) (drop (turn + 1) es)))

-- stages at which the same is left of the arrival at hand
pub same_hand : (es : List Arrival) (turn : ℕ) (s t : Stage) → turn < length es
    → rest_at s (get_or es turn nobody) (take turn es) ≡ rest_at t (get_or es turn nobody) (take turn es) → owed_of es turn s ≡ owed_of es turn t
same_hand es turn s t within same =
    owed_split es turn s nobody within
    ∙ ap (λ (ts : List Task). (if is_live (get_or es turn nobody) then ts else []) ++ owed_of es (turn + 1) Alone) same
    ∙ sym (owed_split es turn t nobody within)

-- a covered arrival is passed over
pub pass_covered : (es : List Arrival) (turn : ℕ) (stage : Stage) → turn < length es → passes_at is_live es turn ≡ false → owed_of es turn stage ≡ owed_of es (turn + 1) Alone
pass_covered es turn stage within fails =
    owed_split es turn stage nobody within
    ∙ ap (λ (b : Bool). (if b then rest_at stage (get_or es turn nobody) (take turn es) else []) ++ owed_of es (turn + 1) Alone)
    (sym (passes_get is_live es turn nobody within) ∙ fails)

pub pass_alone : (es : List Arrival) (turn : ℕ) → turn < length es → (get_or es turn nobody).resident ≡ false → owed_of es turn Alone ≡ owed_of es turn (First 0)
pass_alone es turn within strange = same_hand es turn Alone (First 0) within (
    ap (λ (b : Bool). new_tasks (get_or es turn nobody).name b (take turn es)) strange)

pub pass_seconds : (es : List Arrival) (turn j k : ℕ) → turn < length es → j ≤ k → k ≤ turn → NonePass is_live es j k → owed_of es turn (Second j) ≡ owed_of es turn (Second k)
pass_seconds es turn j k within le last none = same_hand es turn (Second j) (Second k) within (
    ap (λ (ns : List Name). map (λ (m : Name). Pair m (get_or es turn nobody).name) ns
    ++ (Pair (get_or es turn nobody).name (get_or es turn nobody).name ∷ firsts (get_or es turn nobody).name (take turn es)))
    (none_names is_live es turn j k (omega (arith, within)) le last none))

pub pass_firsts : (es : List Arrival) (turn j k : ℕ) → turn < length es → j ≤ k → k ≤ turn → NonePass is_home es j k → owed_of es turn (First j) ≡ owed_of es turn (First k)
pass_firsts es turn j k within le last none = same_hand es turn (First j) (First k) within (
    ap (λ (ns : List Name). map (λ (m : Name). Pair (get_or es turn nobody).name m) ns) (none_names is_home es turn j k (omega (arith, within)) le last none))

-- an arrival whose tasks are over
pub pass_over : (es : List Arrival) (turn : ℕ) → turn < length es → owed_of es turn (First turn) ≡ owed_of es (turn + 1) Alone
pass_over es turn within =
    let a = get_or es turn nobody in
    let none : drop turn (take turn es) ≡ [] = drop_all turn (take turn es) (omega (arith, length-take-le turn es (omega (arith, within)))) in
    owed_split es turn (First turn) nobody within
    ∙ ap (λ (b : List Arrival). (if is_live a then firsts a.name b else []) ++ owed_of es (turn + 1) Alone) none
    ∙ by (is_live a)
  where
    by : (b : Bool) → (if b then [] else []) ++ owed_of es (turn + 1) Alone ≡ owed_of es (turn + 1) Alone
    by true = refl
    by false = refl

-- ---- at the end nothing is left

pub owed_end : (es : List Arrival) (turn : ℕ) (stage : Stage) → length es ≤ turn → owed_of es turn stage ≡ []
unfolding owed_of
owed_end es turn stage past = ap (owed_at stage (take turn es)) (drop_all turn es past)

-- ---- the first task that is left

pub live_hand : (es : List Arrival) (turn : ℕ) (stage : Stage) (d : Arrival) → turn < length es → passes_at is_live es turn ≡ true
    → owed_of es turn stage ≡ rest_at stage (get_or es turn d) (take turn es) ++ owed_of es (turn + 1) Alone
live_hand es turn stage d within live =
    owed_split es turn stage d within
    ∙ ap (λ (b : Bool). (if b then rest_at stage (get_or es turn d) (take turn es) else []) ++ owed_of es (turn + 1) Alone)
    (sym (passes_get is_live es turn d within) ∙ live)

pub home_parts : (es : List Arrival) (turn : ℕ) (d : Arrival) → turn < length es → passes_at is_home es turn ≡ true → (passes_at is_live es turn ≡ true) × ((get_or es turn d).resident ≡ true)
home_parts es turn d within passes =
    let parts = and_parts (not (get_or es turn d).covered) (get_or es turn d).resident (sym (passes_get is_home es turn d within) ∙ passes) in
    (passes_get is_live es turn d within ∙ parts.0, parts.1)

pub head_alone : (es : List Arrival) (turn : ℕ) (d : Arrival) → turn < length es → passes_at is_home es turn ≡ true
    → owed_of es turn Alone ≡ Solo (get_or es turn d).name ∷ owed_of es turn (Second 0)
head_alone es turn d within passes =
    let parts = home_parts es turn d within passes in
    let a = get_or es turn d in
    let before = take turn es in
    live_hand es turn Alone d within parts.0
    ∙ ap (λ (b : Bool). new_tasks a.name b before ++ owed_of es (turn + 1) Alone) parts.1
    ∙ ap (λ (ts : List Task). Solo a.name ∷ (ts ++ owed_of es (turn + 1) Alone)) (append_assoc (seconds a.name before) (Pair a.name a.name ∷ []) (firsts a.name before))
    ∙ ap (λ (ts : List Task). Solo a.name ∷ ts) (sym (live_hand es turn (Second 0) d within parts.0))

pub head_second : (es : List Arrival) (turn k : ℕ) (d e : Arrival) → turn < length es → k < turn → passes_at is_live es k ≡ true → passes_at is_live es turn ≡ true
    → owed_of es turn (Second k) ≡ Pair (get_or es k e).name (get_or es turn d).name ∷ owed_of es turn (Second (k + 1))
head_second es turn k d e within lt passes live =
    let a = get_or es turn d in
    let before = take turn es in
    live_hand es turn (Second k) d within live
    ∙ ap (λ (ns : List Name). (map (λ (m : Name). Pair m a.name) ns ++ (Pair a.name a.name ∷ firsts a.name before)) ++ owed_of es (turn + 1) Alone)
    (one_there is_live es turn k e (omega (arith, within)) lt passes)
    ∙ ap (λ (ts : List Task). Pair (get_or es k e).name a.name ∷ ts) (sym (live_hand es turn (Second (k + 1)) d within live))

pub head_itself : (es : List Arrival) (turn : ℕ) (d : Arrival) → turn < length es → passes_at is_live es turn ≡ true
    → owed_of es turn (Second turn) ≡ Pair (get_or es turn d).name (get_or es turn d).name ∷ owed_of es turn (First 0)
head_itself es turn d within live =
    let a = get_or es turn d in
    let before = take turn es in
    let none : drop turn before ≡ [] = drop_all turn before (omega (arith, length-take-le turn es (omega (arith, within)))) in
    live_hand es turn (Second turn) d within live
    ∙ ap (λ (b : List Arrival). (seconds a.name b ++ (Pair a.name a.name ∷ firsts a.name before)) ++ owed_of es (turn + 1) Alone) none
    ∙ ap (λ (ts : List Task). Pair a.name a.name ∷ ts) (sym (live_hand es turn (First 0) d within live))

pub head_first : (es : List Arrival) (turn k : ℕ) (d e : Arrival) → turn < length es → k < turn → passes_at is_home es k ≡ true → passes_at is_live es turn ≡ true
    → owed_of es turn (First k) ≡ Pair (get_or es turn d).name (get_or es k e).name ∷ owed_of es turn (First (k + 1))
head_first es turn k d e within lt passes live =
    let a = get_or es turn d in
    live_hand es turn (First k) d within live
    ∙ ap (λ (ns : List Name). map (λ (m : Name). Pair a.name m) ns ++ owed_of es (turn + 1) Alone)
    (one_there is_home es turn k e (omega (arith, within)) lt passes)
    ∙ ap (λ (ts : List Task). Pair a.name (get_or es k e).name ∷ ts) (sym (live_hand es turn (First (k + 1)) d within live))
