-- What the fields keep through an arrival, a covering and a finished task.
use Rattle.std.proofs.Common.{◌≡◌, ◌≢◌, ◌∙◌, ◌⊎◌, inl, inr, ℕ, zero, suc, ◌+◌, ◌<◌, ◌≤◌, ◌==◌, Bool, true, false, not, ◌&&◌, ◌||◌, if◌then◌else◌, List, [], ◌∷◌, ◌++◌, length, map, get_or, slice_get, slice_set, Option, Some, None, MatchOption, refl, sym, ap, subst, arith, length-append, true≢false, eqb-true, eq-eqb, get_or-set_same, get_or-set_other, length-set}
use Rattle.std.specs.List.{list_any}
use Rattle.std.specs.Bool.{Decides}
use Rattle.std.proofs.lemmas.Bool.{cases_order, and_parts}
use Rattle.std.proofs.lemmas.List.{length-map, map_push, get_or-map, same_lists, get_or_append_left, get_or_push, get_or_read}
use Rattle.std.proofs.lemmas.Option.{slice_get_within, slice_get-get_or}
use Rattle.indexmap.specs.IndexSet.{insert_key}
use Rattle.cd_names.specs.declared.names.Name.{Name}
use Rattle.cd_tasks.specs.declared.Task.{Task}
use Rattle.cd_tasks.specs.declared.Task.TheVariants.{Solo, Pair}
use Rattle.cd_tasks.specs.declared.Arrival.{Arrival}
use Rattle.cd_tasks.specs.declared.tasks.Key.{Key}
use Rattle.cd_tasks.specs.declared.cursor.Stage.{Stage}
use Rattle.cd_tasks.specs.declared.cursor.Stage.TheVariants.{Alone, Second, First}
use Rattle.cd_tasks.specs.Order.{is_live, is_home, owed_of}
use Rattle.cd_tasks.specs.Owing.{cover_one, IsNew, IsPlaceOf}
use Rattle.cd_names.specs.Names.{name_eq}
use Rattle.cd_tasks.specs.Links.{passes_at, NonePass, AreLinks, IsReached, IsWithin, after, IsDue, IsSettled}
use Rattle.cd_tasks.specs.Tracking.{key_of, Lacks, AreDistinct, IsTracked}
use Rattle.cd_tasks.specs.contracts.tasks.KeyPartialEq.TheImpl.{eq-value}
use Rattle.cd_tasks.proofs.Backs.{none_back}
use Rattle.cd_tasks.proofs.Walking.{nobody, head_alone, head_second, head_itself, head_first, owed_end}

-- ---- keys

made : ℕ → ℕ → Key
made peer seq = record { peer = peer; seq = seq }

pub same_key : (a b : Key) → Decides (eq-value.it a b) (a ≡ b)
same_key a b = (to, λ e. ap (λ (k : Key). eq-value.it a k) (sym e) ∙ itself)
  where
    to : eq-value.it a b ≡ true → a ≡ b
    to e =
        let p = and_parts (a.peer == b.peer) (a.seq == b.seq) e in
        let x : a.peer ≡ b.peer = eqb-true a.peer b.peer p.0 in
        let y : a.seq ≡ b.seq = eqb-true a.seq b.seq p.1 in
        λ i. record { peer = x i; seq = y i }

    itself : eq-value.it a a ≡ true
    itself = λ i. eq-eqb a.peer a.peer refl i && eq-eqb a.seq a.seq refl i

name_of_key : (a b : Name) → key_of a ≡ key_of b → a ≡ b
name_of_key a b e =
    let x : a.peer ≡ b.peer = ap (λ (k : Key). k.peer) e in
    let y : a.seq ≡ b.seq = ap (λ (k : Key). k.seq) e in
    λ i. record { peer = x i; seq = y i }

name_true : (a b : Name) → name_eq a b ≡ true → a ≡ b
name_true a b e =
    let p = and_parts (a.peer == b.peer) (a.seq == b.seq) e in
    let x : a.peer ≡ b.peer = eqb-true a.peer b.peer p.0 in
    let y : a.seq ≡ b.seq = eqb-true a.seq b.seq p.1 in
    λ i. record { peer = x i; seq = y i }

name_itself : (a b : Name) → a ≡ b → name_eq a b ≡ true
name_itself a b e = ap (name_eq a) (sym e) ∙ (λ i. eq-eqb a.peer a.peer refl i && eq-eqb a.seq a.seq refl i)

name_other : (a b : Name) → a ≢ b → name_eq a b ≡ false
name_other a b ne = by (name_eq a b) refl
  where
    by : (t : Bool) → name_eq a b ≡ t → t ≡ false
    by true e = absurd (ne (name_true a b e))
    by false e = refl

-- a new name's key is found by no test
unfound : (n : Name) (es : List Arrival) → IsNew n es → list_any (eq-value.it (key_of n)) (map (λ e. key_of e.name) es) ≡ false
unfound n [] new = refl
unfound n (e ∷ es) new = by (eq-value.it (key_of n) (key_of e.name)) refl (unfound n es new.1)
  where
    by : (t : Bool) → eq-value.it (key_of n) (key_of e.name) ≡ t → list_any (eq-value.it (key_of n)) (map (λ e. key_of e.name) es) ≡ false
        → (t || list_any (eq-value.it (key_of n)) (map (λ e. key_of e.name) es)) ≡ false
    by true is rest = absurd (new.0 (sym (name_of_key n e.name ((same_key (key_of n) (key_of e.name)).0 is))))
    by false is rest = rest

pub keyed_more : (keys : List Key) (es : List Arrival) (a : Arrival) → keys ≡ map (λ e. key_of e.name) es → IsNew a.name es
    → insert_key eq-value.it keys (key_of a.name) ≡ map (λ e. key_of e.name) (es ++ a ∷ [])
keyed_more keys es a keyed new =
    ap (λ (ks : List Key). insert_key eq-value.it ks (key_of a.name)) keyed
    ∙ ap (λ (b : Bool). if b then map (λ e. key_of e.name) es else map (λ e. key_of e.name) es ++ key_of a.name ∷ []) (unfound a.name es new)
    ∙ sym (map_push (λ e. key_of e.name) es a)

-- ---- links

passes_left : (test : Arrival → Bool) (es : List Arrival) (a : Arrival) (k : ℕ) → k < length es → passes_at test (es ++ a ∷ []) k ≡ passes_at test es k
passes_left test [] a k lt = absurd (omega (arith, lt))
passes_left test (e ∷ es) a zero lt = refl
passes_left test (e ∷ es) a (suc k) lt = passes_left test es a k (omega (arith, lt))

none_more : (test : Arrival → Bool) (es : List Arrival) (a : Arrival) (i j : ℕ) → j ≤ length es → NonePass test es i j → NonePass test (es ++ a ∷ []) i j
unfolding NonePass
none_more test es a i j le none k from to = passes_left test es a k (omega (arith, le, to)) ∙ none k from to

none_next : (test : Arrival → Bool) (es : List Arrival) (i : ℕ) → NonePass test es i i
unfolding NonePass
none_next test es i k from to = absurd (omega (arith, from, to))

record Leads (test : Arrival → Bool) (es : List Arrival) (k to : ℕ) : Type 0 where
  up : k < to
  within : to ≤ length es
  over : NonePass test es (k + 1) to

leads_more : (test : Arrival → Bool) (es : List Arrival) (links : List ℕ) (a : Arrival) → AreLinks test es links → (k : ℕ) → k < length (es ++ a ∷ [])
    → Leads test (es ++ a ∷ []) k (get_or (links ++ (length es + 1) ∷ []) k 0)
leads_more test es links a are k lt = by (cases_order k (length es))
  where
    long : length (es ++ a ∷ []) ≡ length es + 1
    long = length-append es (a ∷ [])

    by : (k ≡ length es) ⊎ ((k < length es) ⊎ (length es < k)) → Leads test (es ++ a ∷ []) k (get_or (links ++ (length es + 1) ∷ []) k 0)
    by (inl e) =
        let place : get_or (links ++ (length es + 1) ∷ []) k 0 ≡ k + 1 = get_or_push links (length es + 1) 0 k (are.same_length ∙ sym e) ∙ ap (λ (n : ℕ). n + 1) (sym e) in
        subst (Leads test (es ++ a ∷ []) k) (sym place) (record { up = omega arith; within = omega (arith, long, e); over = none_next test (es ++ a ∷ []) (k + 1) })
    by (inr (inl less)) =
        let place : get_or (links ++ (length es + 1) ∷ []) k 0 ≡ get_or links k 0 = get_or_append_left links ((length es + 1) ∷ []) 0 k (omega (arith, are.same_length, less)) in
        subst (Leads test (es ++ a ∷ []) k) (sym place)
        (record { up = are.up k less; within = omega (arith, are.within k less, long); over = none_more test es a (k + 1) (get_or links k 0) (are.within k less) (are.over k less) })
    by (inr (inr more)) = absurd (omega (arith, more, lt, long))

pub links_more : (test : Arrival → Bool) (es : List Arrival) (links : List ℕ) (a : Arrival) → AreLinks test es links → AreLinks test (es ++ a ∷ []) (links ++ (length es + 1) ∷ [])
links_more test es links a are =
    let leads = leads_more test es links a are in
    record {
      same_length = length-append links ((length es + 1) ∷ []) ∙ ap (λ (n : ℕ). n + 1) are.same_length ∙ sym (length-append es (a ∷ []));
      up = λ k lt. (leads k lt).up;
      within = λ k lt. (leads k lt).within;
      over = λ k lt. (leads k lt).over;
    }

-- tests that a covered arrival doesn't pass where it didn't before
abbrev Fades : (Arrival → Bool) → Type 0
Fades test = (n : Name) (e : Arrival) → test e ≡ false → test (cover_one n e) ≡ false

pub live_fades : Fades is_live
live_fades n e h = by (name_eq e.name n) e.covered h
  where
    by : (b v : Bool) → not v ≡ false → not (b || v) ≡ false
    by true v h = refl
    by false v h = h

pub home_fades : Fades is_home
home_fades n e h = by (name_eq e.name n) e.covered e.resident h
  where
    by : (b v r : Bool) → (not v && r) ≡ false → (not (b || v) && r) ≡ false
    by true v r h = refl
    by false v r h = h

fades_at : (test : Arrival → Bool) → Fades test → (n : Name) (es : List Arrival) (k : ℕ) → passes_at test es k ≡ false → passes_at test (map (cover_one n) es) k ≡ false
fades_at test fades n [] k h = refl
fades_at test fades n (e ∷ es) zero h = fades n e h
fades_at test fades n (e ∷ es) (suc k) h = fades_at test fades n es k h

none_faded : (test : Arrival → Bool) → Fades test → (n : Name) (es : List Arrival) (i j : ℕ) → NonePass test es i j → NonePass test (map (cover_one n) es) i j
unfolding NonePass
none_faded test fades n es i j none k from to = fades_at test fades n es k (none k from to)

pub links_covered : (test : Arrival → Bool) → Fades test → (n : Name) (es : List Arrival) (links : List ℕ) → AreLinks test es links → AreLinks test (map (cover_one n) es) links
links_covered test fades n es links are =
    let long : length (map (cover_one n) es) ≡ length es = length-map es (cover_one n) in
    record {
      same_length = are.same_length ∙ sym long;
      up = λ k lt. are.up k (omega (arith, lt, long));
      within = λ k lt. omega (arith, are.within k (omega (arith, lt, long)), long);
      over = λ k lt. none_faded test fades n es (k + 1) (get_or links k 0) (are.over k (omega (arith, lt, long)));
    }

-- ---- covering

covered_here : (n : Name) (e : Arrival) → e.name ≡ n → record e { covered = true } ≡ cover_one n e
covered_here n e is = ap (λ (b : Bool). record e { covered = b || e.covered }) (sym (name_itself e.name n is))

untouched : (n : Name) (e : Arrival) → e.name ≢ n → cover_one n e ≡ e
untouched n e ne = ap (λ (b : Bool). record e { covered = b || e.covered }) (name_other e.name n ne)

-- no arrival has the name
pub cover_nothing : (n : Name) (es : List Arrival) → Lacks (map (λ e. key_of e.name) es) (key_of n) → map (cover_one n) es ≡ es
cover_nothing n [] lacks = refl
cover_nothing n (e ∷ es) lacks =
    (λ i. untouched n e (λ is. lacks 0 (ap Some (ap key_of is))) i ∷ cover_nothing n es (λ k is. lacks (suc k) is) i)

-- the arrival in the name's place is covered
pub cover_place : (n : Name) (keys : List Key) (es : List Arrival) (place : ℕ) → keys ≡ map (λ e. key_of e.name) es → AreDistinct keys → slice_get keys place ≡ Some (key_of n)
    → slice_set es place (record (get_or es place nobody) { covered = true }) ≡ map (cover_one n) es
cover_place n keys es place keyed distinct there =
    same_lists _ _ (length-set es place _ ∙ sym (length-map es (cover_one n))) (λ k d lt. at k d (omega (arith, lt, length-set es place (record (get_or es place nobody) { covered = true }))) (cases_order k place))
  where
    key_at : (k : ℕ) (d : Arrival) → k < length es → slice_get keys k ≡ Some (key_of (get_or es k d).name)
    key_at k d lt =
        ap (λ (ks : List Key). slice_get ks k) keyed
        ∙ slice_get-get_or (map (λ e. key_of e.name) es) k (key_of d.name) (omega (arith, lt, length-map es (λ e. key_of e.name)))
        ∙ ap Some (get_or-map (λ e. key_of e.name) es k d (key_of d.name) lt)

    some_is : {A : Type 0} (x y : A) → Some x ≡ Some y → x ≡ y
    some_is x y e = cc e

    other : (k : ℕ) (d : Arrival) → k < length es → k ≢ place → (get_or es k d).name ≢ n
    other k d lt ne is = ne (distinct k place (key_of n) (key_at k d lt ∙ ap Some (ap key_of is)) there)

    away : (k : ℕ) (d : Arrival) → k < length es → k ≢ place → get_or (slice_set es place (record (get_or es place nobody) { covered = true })) k d ≡ get_or (map (cover_one n) es) k d
    away k d lt ne = get_or-set_other es place k (record (get_or es place nobody) { covered = true }) d ne
        ∙ sym (untouched n (get_or es k d) (other k d lt ne)) ∙ sym (get_or-map (cover_one n) es k d d lt)

    at : (k : ℕ) (d : Arrival) → k < length es → (k ≡ place) ⊎ ((k < place) ⊎ (place < k))
        → get_or (slice_set es place (record (get_or es place nobody) { covered = true })) k d ≡ get_or (map (cover_one n) es) k d
    at k d lt (inl e) =
        let here : place < length es = omega (arith, e, lt) in
        let is : (get_or es place nobody).name ≡ n = name_of_key _ n (some_is _ _ (sym (key_at place nobody here) ∙ there)) in
        ap (λ (j : ℕ). get_or (slice_set es place (record (get_or es place nobody) { covered = true })) j d) e
        ∙ get_or-set_same es place (record (get_or es place nobody) { covered = true }) d here
        ∙ covered_here n (get_or es place nobody) is
        ∙ sym (ap (λ (j : ℕ). get_or (map (cover_one n) es) j d) e ∙ get_or-map (cover_one n) es place nobody d here)
    at k d lt (inr (inl less)) = away k d lt (λ e. omega (arith, e, less))
    at k d lt (inr (inr more)) = away k d lt (λ e. omega (arith, e, more))

-- the same by what was read there
pub cover_written : (n : Name) (keys : List Key) (es : List Arrival) (place : ℕ) (x : Arrival) → keys ≡ map (λ e. key_of e.name) es → AreDistinct keys → slice_get keys place ≡ Some (key_of n)
    → x ≡ get_or es place x → slice_set es place (record { name = x.name; resident = x.resident; covered = true }) ≡ map (cover_one n) es
cover_written n keys es place x keyed distinct there read =
    let within : place < length es = omega (arith, slice_get_within keys place (key_of n) there, ap length keyed ∙ length-map es (λ e. key_of e.name)) in
    ap (λ (y : Arrival). slice_set es place (record { name = y.name; resident = y.resident; covered = true })) (get_or_read es place x within read nobody)
    ∙ cover_place n keys es place keyed distinct there

pub key_within : (n : Name) (keys : List Key) (es : List Arrival) (place : ℕ) → keys ≡ map (λ e. key_of e.name) es → slice_get keys place ≡ Some (key_of n) → place < length es
key_within n keys es place keyed there = omega (arith, slice_get_within keys place (key_of n) there, ap length keyed ∙ length-map es (λ e. key_of e.name))

pub keys_covered : (n : Name) (es : List Arrival) → map (λ e. key_of e.name) (map (cover_one n) es) ≡ map (λ e. key_of e.name) es
keys_covered n [] = refl
keys_covered n (e ∷ es) = ap (λ (ks : List Key). key_of e.name ∷ ks) (keys_covered n es)

-- ---- the place in the order

pub settled_before : (es : List Arrival) (turn : ℕ) (stage : Stage) → IsSettled es turn stage → turn ≢ length es → (turn < length es) × IsDue es turn stage
settled_before es turn stage (inl (last, alone)) ne = absurd (ne last)
settled_before es turn stage (inr (within, due)) ne = (within, due)

pub settled_place : (es : List Arrival) (turn : ℕ) (stage : Stage) → IsSettled es turn stage → (turn ≤ length es) × IsReached turn stage
settled_place es turn stage (inl (last, alone)) = (omega (arith, last), subst (IsReached turn) (sym alone) tt)
settled_place es turn stage (inr (within, due)) = (omega (arith, within), by stage due)
  where
    by : (s : Stage) → IsDue es turn s → IsReached turn s
    by Alone due = tt
    by (Second k) due = due.0
    by (First k) due = omega (arith, due.0)

pub settled_end : (es : List Arrival) (turn : ℕ) (stage : Stage) → IsSettled es turn stage → (turn < length es) ⊎ ((turn ≡ length es) × (stage ≡ Alone))
settled_end es turn stage (inl (last, alone)) = inr (last, alone)
settled_end es turn stage (inr (within, due)) = inl within

-- a place where something is owed
pub settled_due : (es : List Arrival) (turn : ℕ) (stage : Stage) → IsSettled es turn stage → owed_of es turn stage ≢ [] → (turn < length es) × IsDue es turn stage
settled_due es turn stage (inl (last, alone)) some = absurd (some (owed_end es turn stage (omega (arith, last))))
settled_due es turn stage (inr (within, due)) some = (within, due)

pub due_within : (es : List Arrival) (turn : ℕ) (stage : Stage) → IsDue es turn stage → IsWithin turn stage
due_within es turn Alone due = tt
due_within es turn (Second k) due = due.0
due_within es turn (First k) due = due.0

pub after_reached : (turn : ℕ) (stage : Stage) → IsWithin turn stage → IsReached turn (after turn stage)
after_reached turn Alone within = omega arith
after_reached turn (Second k) within = by (k == turn) refl
  where
    by : (b : Bool) → (k == turn) ≡ b → IsReached turn (if b then First 0 else Second (k + 1))
    by true e = omega arith
    by false e = let ne : k ≢ turn = λ is. true≢false (sym (eq-eqb k turn is) ∙ e) in omega (arith, within, ne)
after_reached turn (First k) within = omega (arith, within)

-- the task at a place, and what is behind it
abbrev pub task_at : List Arrival → ℕ → Stage → Task
task_at es turn Alone = Solo (get_or es turn nobody).name
task_at es turn (Second k) = Pair (get_or es k nobody).name (get_or es turn nobody).name
task_at es turn (First k) = Pair (get_or es turn nobody).name (get_or es k nobody).name

pub due_head : (es : List Arrival) (turn : ℕ) (stage : Stage) → turn < length es → IsDue es turn stage → owed_of es turn stage ≡ task_at es turn stage ∷ owed_of es turn (after turn stage)
due_head es turn Alone within due = head_alone es turn nobody within due
due_head es turn (Second k) within due = by (k == turn) refl
  where
    by : (b : Bool) → (k == turn) ≡ b → owed_of es turn (Second k) ≡ Pair (get_or es k nobody).name (get_or es turn nobody).name ∷ owed_of es turn (if b then First 0 else Second (k + 1))
    by true e =
        let is : k ≡ turn = eqb-true k turn e in
        ap (λ (j : ℕ). owed_of es turn (Second j)) is
        ∙ head_itself es turn nobody within due.2
        ∙ ap (λ (j : ℕ). Pair (get_or es j nobody).name (get_or es turn nobody).name ∷ owed_of es turn (First 0)) (sym is)
    by false e =
        let ne : k ≢ turn = λ is. true≢false (sym (eq-eqb k turn is) ∙ e) in
        head_second es turn k nobody nobody within (omega (arith, due.0, ne)) due.1 due.2
due_head es turn (First k) within due = head_first es turn k nobody nobody within due.0 due.1 due.2

-- ---- no arrivals, and new names

no_links : (test : Arrival → Bool) → AreLinks test [] []
no_links test = record {
  same_length = refl;
  up = λ k lt. absurd (omega (arith, lt));
  within = λ k lt. absurd (omega (arith, lt));
  over = λ k lt. absurd (omega (arith, lt));
}

pub none_tracked : (keys : List Key) (es : List Arrival) (later home : List ℕ) → keys ≡ [] → es ≡ [] → later ≡ [] → home ≡ [] → IsTracked keys es later home 0 Alone
none_tracked keys es later home a b c d =
    let none : IsTracked [] [] [] [] 0 Alone = record { keyed = refl; lives = no_links is_live; homes = no_links is_home; settled = inl (refl, refl); ordered = none_back } in
    subst (λ (l : List Key). IsTracked l es later home 0 Alone) (sym a)
    (subst (λ (l : List Arrival). IsTracked [] l later home 0 Alone) (sym b)
    (subst (λ (l : List ℕ). IsTracked [] [] l home 0 Alone) (sym c)
    (subst (λ (l : List ℕ). IsTracked [] [] [] l 0 Alone) (sym d) none)))

some_key : (a b : Key) → Some a ≡ Some b → a ≡ b
some_key a b e = cc e

lacks_new : (n : Name) (es : List Arrival) → Lacks (map (λ e. key_of e.name) es) (key_of n) → IsNew n es
lacks_new n [] lacks = tt
lacks_new n (x ∷ es) lacks = (λ e. lacks 0 (ap Some (ap key_of e)), lacks_new n es (λ k e. lacks (suc k) e))

place_named : (n : Name) (es : List Arrival) (k : ℕ) → slice_get (map (λ e. key_of e.name) es) k ≡ Some (key_of n) → IsPlaceOf n es k
place_named n [] k e = absurd (cc e)
place_named n (x ∷ es) zero e = ap Some (name_of_key x.name n (some_key _ _ e))
place_named n (x ∷ es) (suc k) e = place_named n es k e

-- the place of a name is that of its key
pub named_place : (n : Name) (es : List Arrival) (o : Option ℕ)
    → MatchOption o (Lacks (map (λ e. key_of e.name) es) (key_of n)) (λ k. slice_get (map (λ e. key_of e.name) es) k ≡ Some (key_of n))
    → MatchOption o (IsNew n es) (IsPlaceOf n es)
named_place n es (Some k) e = place_named n es k e
named_place n es None lacks = lacks_new n es lacks
