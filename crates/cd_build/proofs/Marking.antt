-- Marks of what is chosen, from the last record to the first.
use Rattle.std.proofs.Common.{◌≡◌, ℕ, zero, suc, ◌+◌, ◌-◌, ◌<◌, ◌||◌, Bool, true, false, cond, List, [], ◌∷◌, ◌++◌, length, take, drop, get_or, replicate, refl, ap, sym, ◌∙◌, subst, arith, append_assoc, append-nil}
use Rattle.std.specs.Prelude.{slice_get, slice_set, unwrap_or, Option, Some, None}
use Rattle.std.proofs.lemmas.List.{length-map, map-append, take_more}
use Rattle.cd_acts.specs.Indexed.{AreOthers, IsOnlyAt}
use Rattle.cd_acts.proofs.Lists.{drop_end, map_get, set_apart}
use Rattle.cd_acts.proofs.Names.{name_eq_sym}
use Rattle.cd_alone.specs.Alone.{EndsEmpty}
use Rattle.cd_alone.specs.Derived.{ancestors, choose, is_wanted, last_names, marks_of, picked}
use Rattle.cd_alone.proofs.Choosing.{whole}
use Rattle.cd_ledger.specs.Records.{is_of}
use Rattle.cd_ledger.specs.declared.records.Known.{Known}
use Rattle.cd_names.specs.Names.{name_eq}
use Rattle.cd_names.specs.declared.names.Name.{Name}
use Rattle.cd_build.specs.Marks.{is_marked, wanted_marks}

-- ---- one name more is wanted

or_none : (a b : Bool) → b ≡ false → (a || b) ≡ a
or_none true b h = refl
or_none false b h = h

or_some : (a b : Bool) → b ≡ true → (a || b) ≡ true
or_some true b h = refl
or_some false b h = h

-- among names and one more
wanted_push : (ns : List Name) (n m : Name) → is_wanted (ns ++ n ∷ []) m ≡ (is_wanted ns m || name_eq m n)
wanted_push [] n m = by (name_eq n m) (name_eq m n) (name_eq_sym n m)
  where
    by : (a b : Bool) → a ≡ b → (a || false) ≡ b
    by true b e = e
    by false b e = e
wanted_push (k ∷ ns) n m = by (name_eq k m) (wanted_push ns n m)
  where
    by : (b : Bool) → is_wanted (ns ++ n ∷ []) m ≡ (is_wanted ns m || name_eq m n) → (b || is_wanted (ns ++ n ∷ []) m) ≡ ((b || is_wanted ns m) || name_eq m n)
    by true h = refl
    by false h = h

others_same : (ns : List Name) (n : Name) (es : List Known) → AreOthers n es → wanted_marks (ns ++ n ∷ []) es ≡ wanted_marks ns es
others_same ns n [] h = refl
others_same ns n (e ∷ es) h =
    ap (λ (b : Bool). b ∷ wanted_marks (ns ++ n ∷ []) es) (wanted_push ns n e.entry.name ∙ or_none (is_wanted ns e.entry.name) (is_of n e) h.0)
    ∙ ap (λ (bs : List Bool). is_wanted ns e.entry.name ∷ bs) (others_same ns n es h.1)

pub want_none : (ns : List Name) (n : Name) (es : List Known) (marks : List Bool) → AreOthers n es → marks ≡ wanted_marks ns es → marks ≡ wanted_marks (ns ++ n ∷ []) es
want_none ns n es marks h is = is ∙ sym (others_same ns n es h)

pub want_one : (ns : List Name) (n : Name) (es : List Known) (place : ℕ) (e : Known) (marks new : List Bool) → IsOnlyAt n es place e → marks ≡ wanted_marks ns es → new ≡ slice_set marks place true
    → new ≡ wanted_marks (ns ++ n ∷ []) es
want_one ns n es place e marks new at is set =
    let front = wanted_marks ns at.front in
    let back = wanted_marks ns at.back in
    let split : marks ≡ front ++ is_wanted ns e.entry.name ∷ back =
    is ∙ ap (λ (xs : List Known). wanted_marks ns xs) at.split ∙ map-append (λ (x : Known). is_wanted ns x.entry.name) at.front (e ∷ at.back) in
    let here : place ≡ length front = at.at ∙ sym (length-map at.front (λ (x : Known). is_wanted ns x.entry.name)) in
    let more : wanted_marks (ns ++ n ∷ []) es ≡ front ++ true ∷ back =
    ap (λ (xs : List Known). wanted_marks (ns ++ n ∷ []) xs) at.split ∙ map-append (λ (x : Known). is_wanted (ns ++ n ∷ []) x.entry.name) at.front (e ∷ at.back)
    ∙ ap (λ (bs : List Bool). bs ++ wanted_marks (ns ++ n ∷ []) (e ∷ at.back)) (others_same ns n at.front at.before)
    ∙ ap (λ (b : Bool). front ++ b ∷ wanted_marks (ns ++ n ∷ []) at.back) (wanted_push ns n e.entry.name ∙ or_some (is_wanted ns e.entry.name) (is_of n e) at.named)
    ∙ ap (λ (bs : List Bool). front ++ true ∷ bs) (others_same ns n at.back at.behind) in
    set ∙ ap (λ (bs : List Bool). slice_set bs place true) split ∙ ap (λ (k : ℕ). slice_set (front ++ is_wanted ns e.entry.name ∷ back) k true) here
    ∙ set_apart front (is_wanted ns e.entry.name) back true ∙ sym more

pub only_within : (n : Name) (es : List Known) (place : ℕ) (e : Known) (count : ℕ) → IsOnlyAt n es place e → count ≡ length es → place < count
only_within n es place e count at is = omega (arith, at.at, is, ap (λ (xs : List Known). length xs) at.split, apart at.front)
  where
    apart : (front : List Known) → length front < length (front ++ e ∷ at.back)
    apart [] = omega arith
    apart (x ∷ front) = omega (arith, apart front)

-- ---- the first names

pub none_wanted : (es : List Known) → replicate (length es) false ≡ wanted_marks [] es
none_wanted [] = refl
none_wanted (e ∷ es) = ap (λ (bs : List Bool). false ∷ bs) (none_wanted es)

pub last_is : (es : List Known) (e : Known) → slice_get es (length es - 1) ≡ Some e → last_names es ≡ e.entry.name ∷ []
last_is [] e h = absurd cc
last_is (x ∷ []) e h = let same : x ≡ e = cc in ap (λ (y : Known). y.entry.name ∷ []) same
last_is (x ∷ y ∷ es) e h =
    let back : length (x ∷ y ∷ es) - 1 ≡ suc (length (y ∷ es) - 1) = omega arith in
    last_is (y ∷ es) e (subst (λ (k : ℕ). slice_get (x ∷ y ∷ es) k ≡ Some e) back h)

pub last_none : (es : List Known) → slice_get es (length es - 1) ≡ None → es ≡ []
last_none [] h = refl
last_none (x ∷ []) h = absurd (let z : Some x ≡ None = h in cc)
last_none (x ∷ y ∷ es) h =
    let back : length (x ∷ y ∷ es) - 1 ≡ suc (length (y ∷ es) - 1) = omega arith in
    absurd (let z : y ∷ es ≡ [] = last_none (y ∷ es) (subst (λ (k : ℕ). slice_get (x ∷ y ∷ es) k ≡ None) back h) in cc)

-- ---- one place more is marked

pub wanted_at : (ns : List Name) (es : List Known) (k : ℕ) (e : Known) (marks : List Bool) → marks ≡ wanted_marks ns es → slice_get es k ≡ Some e → is_marked marks k ≡ is_wanted ns e.entry.name
wanted_at ns es k e marks is there = ap (λ (bs : List Bool). is_marked bs k) is ∙ ap (λ (o : Option Bool). unwrap_or o false) (map_get (λ (x : Known). is_wanted ns x.entry.name) es k e there)

drop_at : (xs : List Known) (i : ℕ) (x : Known) → slice_get xs i ≡ Some x → drop i xs ≡ x ∷ drop (suc i) xs
drop_at [] i x there = absurd cc
drop_at (y ∷ xs) zero x there = let same : y ≡ x = cc in ap (λ (z : Known). z ∷ xs) same
drop_at (y ∷ xs) (suc i) x there = drop_at xs i x there

set_last : (i : ℕ) (xs : List Bool) → slice_set (replicate (suc i) false ++ xs) i true ≡ replicate i false ++ true ∷ xs
set_last zero xs = refl
set_last (suc i) xs = ap (λ (ys : List Bool). false ∷ ys) (set_last i xs)

keep_last : (i : ℕ) (xs : List Bool) → replicate (suc i) false ++ xs ≡ replicate i false ++ false ∷ xs
keep_last zero xs = refl
keep_last (suc i) xs = ap (λ (ys : List Bool). false ∷ ys) (keep_last i xs)

-- what is wanted, and the marks, behind a place
pub record AreMarked (goal : List Name) (es : List Known) (i : ℕ) (wanted marks : List Bool) : Type 0 where
  pub wanted_are : wanted ≡ wanted_marks (choose goal (drop i es)).wanted es
  pub marks_are : marks ≡ replicate i false ++ marks_of goal (drop i es)

chosen_wanted : (goal : List Name) (e : Known) (es : List Known) (b : Bool) → is_wanted (choose goal es).wanted e.entry.name ≡ b
    → (choose goal (e ∷ es)).wanted ≡ cond b ((choose goal es).wanted ++ e.entry.cites) (choose goal es).wanted
chosen_wanted goal e es b is = ap (λ (x : Bool). (cond x (record { entries = e ∷ (choose goal es).entries; wanted = (choose goal es).wanted ++ e.entry.cites }) (choose goal es)).wanted) is ∙ by b
  where
    by : (b : Bool) → (cond b (record { entries = e ∷ (choose goal es).entries; wanted = (choose goal es).wanted ++ e.entry.cites }) (choose goal es)).wanted ≡ cond b ((choose goal es).wanted ++ e.entry.cites) (choose goal es).wanted
    by true = refl
    by false = refl

pub marks_step : (goal : List Name) (es : List Known) (i : ℕ) (e : Known) (wanted marks more new : List Bool) → slice_get es i ≡ Some e → AreMarked goal es (suc i) wanted marks
    → new ≡ cond (is_marked wanted i) (slice_set marks i true) marks
    → ((ns : List Name) → wanted ≡ wanted_marks ns es → more ≡ wanted_marks (cond (is_marked wanted i) (ns ++ e.entry.cites) ns) es)
    → AreMarked goal es i more new
marks_step goal es i e wanted marks more new there before set wants =
    let rest = drop (suc i) es in
    let ns = (choose goal rest).wanted in
    let split : e ∷ rest ≡ drop i es = sym (drop_at es i e there) in
    let test : is_marked wanted i ≡ is_wanted ns e.entry.name = wanted_at ns es i e wanted before.wanted_are there in
    let next : more ≡ wanted_marks (choose goal (e ∷ rest)).wanted es =
    wants ns before.wanted_are ∙ ap (λ (ms : List Name). wanted_marks ms es) (ap (λ (b : Bool). cond b (ns ++ e.entry.cites) ns) test ∙ sym (chosen_wanted goal e rest (is_wanted ns e.entry.name) refl)) in
    let marked : new ≡ replicate i false ++ marks_of goal (e ∷ rest) =
    set ∙ ap (λ (b : Bool). cond b (slice_set marks i true) marks) test ∙ ap (λ (ms : List Bool). cond (is_wanted ns e.entry.name) (slice_set ms i true) ms) before.marks_are ∙ by (is_wanted ns e.entry.name) in
    record {
      wanted_are = subst (λ (xs : List Known). more ≡ wanted_marks (choose goal xs).wanted es) split next;
      marks_are = subst (λ (xs : List Known). new ≡ replicate i false ++ marks_of goal xs) split marked;
    }
  where
    by : (b : Bool) → cond b (slice_set (replicate (suc i) false ++ marks_of goal (drop (suc i) es)) i true) (replicate (suc i) false ++ marks_of goal (drop (suc i) es)) ≡ replicate i false ++ b ∷ marks_of goal (drop (suc i) es)
    by true = set_last i (marks_of goal (drop (suc i) es))
    by false = keep_last i (marks_of goal (drop (suc i) es))

-- the marked entries are those that are chosen
pub chosen_marked : (goal : List Name) (es : List Known) → picked (marks_of goal es) es ≡ (choose goal es).entries
chosen_marked goal [] = refl
chosen_marked goal (e ∷ es) =
    elim (is_wanted (choose goal es).wanted e.entry.name)
    as (λ b. cond b (e ∷ picked (marks_of goal es) es) (picked (marks_of goal es) es) ≡ (cond b (record { entries = e ∷ (choose goal es).entries; wanted = (choose goal es).wanted ++ e.entry.cites }) (choose goal es)).entries)
    [ true ↦ ap (λ (zs : List Known). e ∷ zs) (chosen_marked goal es) | false ↦ chosen_marked goal es ]

pub marks_count : (goal : List Name) (es : List Known) → length (marks_of goal es) ≡ length es
marks_count goal [] = refl
marks_count goal (e ∷ es) = ap suc (marks_count goal es)

-- ---- the first and the last place

pub marks_start : (goal : List Name) (es : List Known) (i n : ℕ) (wanted marks : List Bool) → i ≡ length es → n ≡ length es → wanted ≡ wanted_marks goal es → marks ≡ replicate n false → AreMarked goal es i wanted marks
marks_start goal es i n wanted marks at all is none =
    let end : drop i es ≡ [] = drop_end es i (omega (arith, at)) in
    let same : n ≡ i = omega (arith, at, all) in
    record {
      wanted_are = is ∙ ap (λ (xs : List Known). wanted_marks (choose goal xs).wanted es) (sym end);
      marks_are = none ∙ ap (λ (k : ℕ). replicate k false) same ∙ sym (append-nil (replicate i false)) ∙ ap (λ (xs : List Known). replicate i false ++ marks_of goal xs) (sym end);
    }

has_room : (i : ℕ) (xs : List Bool) → i < length (replicate (suc i) false ++ xs)
has_room zero xs = omega arith
has_room (suc i) xs = omega (arith, has_room i xs)

pub marks_room : (goal : List Name) (es : List Known) (i : ℕ) (wanted marks : List Bool) → AreMarked goal es (suc i) wanted marks → i < length marks
marks_room goal es i wanted marks m = omega (arith, ap (λ (bs : List Bool). length bs) m.marks_are, has_room i (marks_of goal (drop (suc i) es)))

-- ---- names one after another

pub want_next : (ns names : List Name) (i : ℕ) (d : Name) (es : List Known) (marks new : List Bool) → i < length names → marks ≡ wanted_marks (ns ++ take i names) es
    → ((ms : List Name) → marks ≡ wanted_marks ms es → new ≡ wanted_marks (ms ++ get_or names i d ∷ []) es) → new ≡ wanted_marks (ns ++ take (i + 1) names) es
want_next ns names i d es marks new small is wants =
    wants (ns ++ take i names) is ∙ ap (λ (ms : List Name). wanted_marks ms es) (append_assoc ns (take i names) (get_or names i d ∷ []) ∙ ap (λ (ms : List Name). ns ++ ms) (sym (take_more names i d small)))

-- where the empty clause is known last, the marked entries are the last one and its ancestors
pub are_chosen : (es : List Known) (marks : List Bool) → EndsEmpty es → marks ≡ marks_of (last_names es) es → picked marks es ≡ ancestors es
are_chosen es marks end is =
    ap (λ (bs : List Bool). picked bs es) is ∙ chosen_marked (last_names es) es ∙ sym (ap (λ (xs : List Known). (choose (last_names xs) xs).entries) (whole es end))
