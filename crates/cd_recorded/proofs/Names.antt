-- No name is live twice, so that the live names in an order that isn't strict are in a strict one.
use Rattle.std.proofs.Common.{◌≡◌, ℕ, suc, ◌+◌, ◌<◌, ◌≤◌, Bool, true, false, cond, ◌&&◌, ◌==◌, List, [], ◌∷◌, ◌++◌, length, map, refl, ap, sym, ◌∙◌, subst, arith, inl, inr, ◌⊎◌}
use Rattle.std.specs.Prelude.{Some, None, filter_map, slice_index_or, nat_lt}
use Rattle.std.specs.List.{AllByRecursion as Each, IsDistinct, cons_option, flat_map}
use Rattle.std.specs.List.Sorted.{IsStrictlySortedBy}
use Rattle.std.specs.Ordering.{is_lt}
use Rattle.std.specs.declared.cmp.Ordering.TheVariants.{Less}
use Rattle.std.proofs.lemmas.Bool.{cases_lt, eq-eqb, eqb-true, le-ltb, lt-ltb}
use Rattle.std.proofs.lemmas.Map.Keys.{IsDistinct-IsPermutation}
use Rattle.cd_kbo.specs.declared.order.Order.{Order}
use Rattle.cd_laws.specs.Statements.{AreNamesOne}
use Rattle.cd_laws.proofs.Lists.{Each_append, Each_gather, Each_weaker, and_true}
use Rattle.cd_laws.proofs.Steps.{acted_me, at_each, name_eq_sym, name_eq_true}
use Rattle.cd_ledger.specs.Records.{Registry, is_of}
use Rattle.cd_ledger.specs.Statuses.{is_held}
use Rattle.cd_ledger.specs.declared.events.Event.{Event}
use Rattle.cd_ledger.specs.declared.local.Local.{Local}
use Rattle.cd_ledger.specs.declared.records.Known.{Known}
use Rattle.cd_ledger.specs.declared.records.Record.{Record}
use Rattle.cd_list.specs.Lists.{tally}
use Rattle.cd_machine.specs.Spread.{Genuine, issued, known_times, record_of}
use Rattle.cd_machine.specs.World.{Run, World, at, nobody}
use Rattle.cd_names.specs.Names.{name_eq}
use Rattle.cd_names.specs.Orders.{name_cmp}
use Rattle.cd_names.specs.declared.names.Name.{Name}
use Rattle.cd_premises.proofs.Runs.{runs_are_right}
use Rattle.cd_read.specs.declared.problem.Problem.{Problem}
use Rattle.cd_recorded.specs.Laws.{LiveNamesAreOne}
use Rattle.cd_recorded.specs.Live.{live_record, live_records, name_of}

-- ---- the order of names

-- below by the number, or by the peer where the numbers are the same
abbrev Lower : Name → Name → Type 0
Lower a b = (a.seq < b.seq) ⊎ ((a.seq ≡ b.seq) × (a.peer < b.peer))

lower_less : (a b : Name) → Lower a b → name_cmp a b ≡ Less
lower_less a b (inl l) = let f = lt-ltb a.seq b.seq l in rw f refl
lower_less a b (inr (same, l)) =
    let f = le-ltb a.seq b.seq (omega (arith, same)) in
    let g = eq-eqb a.seq b.seq same in
    let k = lt-ltb a.peer b.peer l in rw (f, g, k) refl

lower_trans : (a b c : Name) → Lower a b → Lower b c → Lower a c
lower_trans a b c (inl l) (inl m) = inl (omega (arith, l, m))
lower_trans a b c (inl l) (inr m) = inl (omega (arith, l, m.0))
lower_trans a b c (inr l) (inl m) = inl (omega (arith, l.0, m))
lower_trans a b c (inr l) (inr m) = inr (omega (arith, l.0, m.0), omega (arith, l.1, m.1))

-- neither above nor the same
lower_of : (a b : Name) → is_lt (name_cmp b a) ≡ false → name_eq a b ≡ false → Lower a b
lower_of a b h ne =
    elim (cases_lt a.seq b.seq) [
      | inl l ↦ inl l
      | inr ge ↦ elim (cases_lt b.seq a.seq) [
        | inl l ↦ absurd (above (inl l))
        | inr le ↦
            let same : a.seq ≡ b.seq = omega (arith, ge, le) in
            elim (cases_lt a.peer b.peer) [
              | inl l ↦ inr (same, l)
              | inr pge ↦ elim (cases_lt b.peer a.peer) [
                | inl l ↦ absurd (above (inr (sym same, l)))
                | inr ple ↦ absurd (equal same (let e : a.peer ≡ b.peer = omega (arith, pge, ple) in e))
              ]
            ]
      ]
    ]
  where
    above : Lower b a → ⊥
    above l = let z : is_lt (name_cmp b a) ≡ true = ap is_lt (lower_less b a l) in absurd (cc (z, h))

    equal : a.seq ≡ b.seq → a.peer ≡ b.peer → ⊥
    equal s q = let f = eq-eqb a.peer b.peer q in let g = eq-eqb a.seq b.seq s in let z : name_eq a b ≡ true = rw (f, g) refl in absurd (cc (z, ne))

-- ---- records of different names

abbrev named : Record → Record → Bool
named a b = name_eq a.name b.name

abbrev Apart : List Record → Type 0
Apart [] = Unit {0}
Apart (r ∷ rs) = Each (λ y. named r y ≡ false) rs × Apart rs

distinct_of : (rs : List Record) → Apart rs → IsDistinct named rs
unfolding IsDistinct
distinct_of [] h = tt
distinct_of (r ∷ rs) h = (h.0, distinct_of rs h.1)

apart_of : (rs : List Record) → IsDistinct named rs → Apart rs
unfolding IsDistinct
apart_of [] h = tt
apart_of (r ∷ rs) h = (h.0, apart_of rs h.1)

apart_append : (xs ys : List Record) → Apart xs → Apart ys → Each (λ x. Each (λ y. named x y ≡ false) ys) xs → Apart (xs ++ ys)
apart_append [] ys h g a = g
apart_append (x ∷ xs) ys h g a = (Each_append (λ y. named x y ≡ false) xs ys h.0 a.0, apart_append xs ys h.1 g a.1)

-- ---- in order

-- no name is below that of its neighbour before
abbrev IsSteady : List Record → Type 0
IsSteady rs = (k : ℕ) (d : Record) → k + 1 < length rs → is_lt (name_cmp (slice_index_or rs (k + 1) d).name (slice_index_or rs k d).name) ≡ false

steady_tail : (r : Record) (rs : List Record) → IsSteady (r ∷ rs) → IsSteady rs
steady_tail r rs h k d l =
    let on : suc k + 1 ≡ suc (k + 1) = omega arith in
    subst (λ (i : ℕ). is_lt (name_cmp (slice_index_or (r ∷ rs) i d).name (slice_index_or rs k d).name) ≡ false) on (h (suc k) d (omega (arith, l)))

abbrev IsStrict : List Record → Type 0
IsStrict [] = Unit {0}
IsStrict (r ∷ rs) = Each (λ y. Lower r.name y.name) rs × IsStrict rs

strict : (rs : List Record) → IsSteady rs → Apart rs → IsStrict rs
strict [] h a = tt
strict (r ∷ rs) h a = let rest = strict rs (steady_tail r rs h) a.1 in (first rs h a.0 rest, rest)
  where
    first : (ys : List Record) → IsSteady (r ∷ ys) → Each (λ y. named r y ≡ false) ys → IsStrict ys → Each (λ y. Lower r.name y.name) ys
    first [] f b s = tt
    first (y ∷ ys) f b s =
        let l = lower_of r.name y.name (f 0 r (omega arith)) b.0 in
        (l, Each_weaker (λ z. Lower y.name z.name) (λ z. Lower r.name z.name) (λ z m. lower_trans r.name y.name z.name l m) ys s.0)

all_less : (r : Record) (rs : List Record) → Each (λ y. Lower r.name y.name) rs → Each (λ n. name_cmp r.name n ≡ Less) (map name_of rs)
all_less r [] h = tt
all_less r (y ∷ rs) h = (lower_less r.name y.name h.0, all_less r rs h.1)

strictly_sorted : (rs : List Record) → IsStrict rs → IsStrictlySortedBy name_cmp (map name_of rs)
unfolding IsStrictlySortedBy
strictly_sorted [] h = tt
strictly_sorted (r ∷ rs) h = (all_less r rs h.0, strictly_sorted rs h.1)

-- ---- the live records of a peer

none_named : (me : ℕ) (r : Record) (es : List Known) → tally (is_of r.name) es ≡ 0 → Each (λ y. named r y ≡ false) (filter_map (live_record me) es)
none_named me r [] h = tt
none_named me r (e ∷ es) h = go (is_of r.name e) refl h (none_named me r es)
  where
    add : (b : Bool) → is_of r.name e ≡ false → Each (λ y. named r y ≡ false) (filter_map (live_record me) es) → Each (λ y. named r y ≡ false) (cons_option (cond b (Some e.entry) None) (filter_map (live_record me) es))
    add true f rest = (name_eq_sym r.name e.entry.name ∙ f, rest)
    add false f rest = rest

    go : (b : Bool) → is_of r.name e ≡ b → cond b 1 0 + tally (is_of r.name) es ≡ 0 → (tally (is_of r.name) es ≡ 0 → Each (λ y. named r y ≡ false) (filter_map (live_record me) es)) → Each (λ y. named r y ≡ false) (filter_map (live_record me) (e ∷ es))
    go true f z rest = absurd (omega (arith, z))
    go false f z rest = add (is_held e && (e.entry.owner == me)) f (rest (omega (arith, z)))

name_is_own : (e : Known) → is_of e.entry.name e ≡ true
name_is_own e = let f = eq-eqb e.entry.name.peer e.entry.name.peer refl in let g = eq-eqb e.entry.name.seq e.entry.name.seq refl in rw (f, g) refl

live_apart : (me : ℕ) (es : List Known) → ((n : Name) → tally (is_of n) es ≤ 1) → Apart (filter_map (live_record me) es)
live_apart me [] h = tt
live_apart me (e ∷ es) h = go (is_held e && (e.entry.owner == me)) (live_apart me es (λ n. omega (arith, h n)))
  where
    others : tally (is_of e.entry.name) es ≡ 0
    others =
        let f = name_is_own e in
        let z : cond (is_of e.entry.name e) 1 0 + tally (is_of e.entry.name) es ≤ 1 = h e.entry.name in
        let y : 1 + tally (is_of e.entry.name) es ≤ 1 = rw f at z in omega (arith, y)

    go : (b : Bool) → Apart (filter_map (live_record me) es) → Apart (cons_option (cond b (Some e.entry) None) (filter_map (live_record me) es))
    go true rest = (none_named me e.entry es others, rest)
    go false rest = rest

-- a record of a peer: it owns it, and the name has this record
abbrev IsOwn : Registry → ℕ → Record → Type 0
IsOwn R q r = (r.owner ≡ q) × Genuine R r

live_owned : (R : Registry) (me : ℕ) (es : List Known) → Each (λ e. Genuine R e.entry) es → Each (IsOwn R me) (filter_map (live_record me) es)
live_owned R me es h = Each_gather (IsOwn R me) (live_record me) es (Each_weaker (λ e. Genuine R e.entry) (λ e. Each (IsOwn R me) (cons_option (live_record me e) [])) one es h)
  where
    go : (e : Known) → Genuine R e.entry → (b : Bool) → (is_held e && (e.entry.owner == me)) ≡ b → Each (IsOwn R me) (cons_option (cond b (Some e.entry) None) [])
    go e g true f = ((eqb-true e.entry.owner me (and_true (is_held e) (e.entry.owner == me) f).1, g), tt)
    go e g false f = tt

    one : (e : Known) → Genuine R e.entry → Each (IsOwn R me) (cons_option (live_record me e) [])
    one e g = go e g (is_held e && (e.entry.owner == me)) refl

-- ---- of all peers

-- what is live at a peer is apart, and its own
abbrev IsLone : Registry → ℕ → Local → Type 0
IsLone R q s = Apart (live_records s) × Each (IsOwn R q) (live_records s)

abbrev AreLone : Registry → ℕ → List Local → Type 0
AreLone R q [] = Unit {0}
AreLone R q (s ∷ ls) = IsLone R q s × AreLone R (q + 1) ls

lone_all : (R : Registry) (k : ℕ) (ls : List Local) → ((i : ℕ) → i < length ls → IsLone R (k + i) (slice_index_or ls i nobody)) → AreLone R k ls
lone_all R k [] h = tt
lone_all R k (s ∷ ls) h = (
  subst (λ (q : ℕ). IsLone R q s) (let z : k + 0 ≡ k = omega arith in z) (h 0 (omega arith)),
  lone_all R (k + 1) ls (λ i l. subst (λ (q : ℕ). IsLone R q (slice_index_or ls i nobody)) (let z : k + suc i ≡ k + 1 + i = omega arith in z) (h (suc i) (omega (arith, l)))),
)

-- owned by this peer or a later one
abbrev IsLater : Registry → ℕ → Record → Type 0
IsLater R q r = (q ≤ r.owner) × Genuine R r

lone_later : (R : Registry) (q : ℕ) (ls : List Local) → AreLone R q ls → Each (IsLater R q) (flat_map live_records ls)
lone_later R q [] h = tt
lone_later R q (s ∷ ls) h =
    Each_append (IsLater R q) (live_records s) (flat_map live_records ls)
    (Each_weaker (IsOwn R q) (IsLater R q) (λ r o. (omega (arith, o.0), o.1)) (live_records s) h.0.1)
    (Each_weaker (IsLater R (q + 1)) (IsLater R q) (λ r o. (omega (arith, o.0), o.1)) (flat_map live_records ls) (lone_later R (q + 1) ls h.1))

-- records of two owners have two names
other_owner : (R : Registry) (q : ℕ) (a b : Record) → IsOwn R q a → IsLater R (q + 1) b → named a b ≡ false
other_owner R q a b g h = go (named a b) refl
  where
    same : named a b ≡ true → ⊥
    same t =
        let n : a.name ≡ b.name = name_eq_true a.name b.name t in
        let s : Some a ≡ Some b = sym g.1 ∙ ap R n ∙ h.1 in
        let r : a ≡ b = cc s in
        let o : a.owner ≡ b.owner = ap (λ x. x.owner) r in absurd (omega (arith, o, g.0, h.0))

    go : (v : Bool) → named a b ≡ v → named a b ≡ false
    go true f = absurd (same f)
    go false f = f

all_apart : (R : Registry) (q : ℕ) (ls : List Local) → AreLone R q ls → Apart (flat_map live_records ls)
all_apart R q [] h = tt
all_apart R q (s ∷ ls) h =
    let later = lone_later R (q + 1) ls h.1 in
    apart_append (live_records s) (flat_map live_records ls) h.0.0 (all_apart R (q + 1) ls h.1)
    (Each_weaker (IsOwn R q) (λ x. Each (λ y. named x y ≡ false) (flat_map live_records ls))
    (λ x o. Each_weaker (IsLater R (q + 1)) (λ y. named x y ≡ false) (λ y m. other_owner R q x y o m) (flat_map live_records ls) later) (live_records s) h.0.1)

-- ---- after a run

issued_once : (n : Name) (w : World) → issued n w ≤ 1
issued_once n w = elim (nat_lt n.seq (at w n.peer).next_seq) as (λ b. cond b 1 0 ≤ 1) [ true ↦ omega arith | false ↦ omega arith ]

run_me : (order : Order) (p : Problem) (es : List Event) (w v : World) → Run order p w es v → ((q : ℕ) → q < length w.locals → (at w q).me ≡ q) → (q : ℕ) → q < length v.locals → (at v q).me ≡ q
run_me order p [] w v r f = subst (λ (x : World). (q : ℕ) → q < length x.locals → (at x q).me ≡ q) (sym r) f
run_me order p (e ∷ es) w v r f =
    run_me order p es r.0 v r.2
    (at_each order p w e r.0 r.1 (λ q s. s.me ≡ q) ((acted_me (at w e.peer) e.act r.1.found).0 ∙ f e.peer r.1.in_range) (λ q l ne. f q l))

lone_at : (w : World) → AreNamesOne w → (q : ℕ) → q < length w.locals → (at w q).me ≡ q → IsLone (record_of w) q (at w q)
lone_at w names q l me =
    let s = at w q in
    let once : (n : Name) → tally (is_of n) s.known ≤ 1 = (λ n. few n) in
    (live_apart s.me s.known once, subst (λ (k : ℕ). Each (IsOwn (record_of w) k) (live_records s)) me (live_owned (record_of w) s.me s.known (names.known q l)))
  where
    few : (n : Name) → known_times n (at w q) ≤ 1
    few n = omega (arith, names.spread n q l, issued_once n w)

pub live_names_are_one : LiveNamesAreOne
live_names_are_one order p policy limits start events w rs starts run same sorted =
    let names = (runs_are_right order p policy limits start w events starts run).laws.names in
    let me = run_me order p events start w run (λ q l. ap (λ (s : Local). s.me) (starts.fresh q l).2) in
    let apart = all_apart (record_of w) 0 w.locals (lone_all (record_of w) 0 w.locals (λ i l. subst (λ (q : ℕ). IsLone (record_of w) q (at w i)) (let z : i ≡ 0 + i = omega arith in z) (lone_at w names i l (me i l)))) in
    let distinct = IsDistinct-IsPermutation named (λ x y. name_eq_sym x.name y.name) (flat_map live_records w.locals) rs same (distinct_of (flat_map live_records w.locals) apart) in
    record {
      live = same;
      ordered = strictly_sorted rs (strict rs (λ k d l. sorted k d (omega arith) l) (apart_of rs distinct));
    }
