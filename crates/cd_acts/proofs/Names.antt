-- Entries by their names.
use Rattle.std.proofs.Common.{◌≡◌, ◌≢◌, ℕ, zero, suc, ◌+◌, ◌<◌, ◌≤◌, Bool, true, false, ◌||◌, cond, eqb, List, [], ◌∷◌, ◌++◌, length, map, refl, ap, sym, ◌∙◌, subst, arith}
use Rattle.std.specs.Prelude.{slice_get, Option, Some, None, option_map}
use Rattle.std.specs.List.{AllByRecursion as Each, list_any}
use Rattle.std.proofs.lemmas.Bool.{eqb-true}
use Rattle.std.proofs.lemmas.Bool.Decides.{nat_tests}
use Rattle.cd_names.specs.declared.names.Name.{Name}
use Rattle.cd_names.specs.Names.{name_eq}
use Rattle.cd_ledger.specs.declared.records.Known.{Known}
use Rattle.cd_ledger.specs.declared.records.Record.{Record}
use Rattle.cd_ledger.specs.Records.{is_known, is_of, look, recorded}
use Rattle.cd_list.specs.Lists.{tally}
use Rattle.cd_list.proofs.Lists.{all_get}
use Rattle.cd_machine.specs.Arrivals.{arrival_of}
use Rattle.cd_tasks.specs.declared.Arrival.{Arrival}
use Rattle.cd_tasks.specs.Owing.{IsNew, IsPlaceOf}
use Rattle.cd_acts.specs.Indexed.{AreOnce, AreOthers, IsOnlyAt, has_arrived}
use Rattle.cd_acts.proofs.Lists.{and_true, any_map, none_any, not_true}

pub name_eq_true : (a b : Name) → name_eq a b ≡ true → a ≡ b
name_eq_true a b h =
    let g = and_true (eqb a.peer b.peer) (eqb a.seq b.seq) h in
    ap (λ p. name_at p a.seq) (eqb-true _ _ g.0) ∙ ap (λ s. name_at b.peer s) (eqb-true _ _ g.1)
  where
    name_at : ℕ → ℕ → Name
    name_at p s = record { peer = p; seq = s }

pub name_eq_refl : (a : Name) → name_eq a a ≡ true
name_eq_refl a = grind (arith, nat_tests)

pub name_eq_sym : (a b : Name) → name_eq a b ≡ name_eq b a
name_eq_sym a b = grind (arith, nat_tests)

pub name_same : (a b : Name) → a ≡ b → name_eq a b ≡ true
name_same a b e = ap (λ x. name_eq x b) e ∙ name_eq_refl b

pub name_other : (a b : Name) → a ≢ b → name_eq a b ≡ false
name_other a b ne = not_true (name_eq a b) (λ h. ne (name_eq_true a b h))

-- ---- counts of a name

pub counted : (n : Name) (es : List Known) (k : ℕ) (e : Known) → slice_get es k ≡ Some e → is_of n e ≡ true → 0 < tally (is_of n) es
counted n [] k e h named = absurd cc
counted n (x ∷ es) zero e h named = let same : x ≡ e = cc in by (is_of n x) (ap (λ y. is_of n y) same ∙ named)
  where
    by : (b : Bool) → b ≡ true → 0 < cond b 1 0 + tally (is_of n) es
    by true g = omega arith
    by false g = absurd cc
counted n (x ∷ es) (suc k) e h named = omega (arith, counted n es k e h named)

pub none_others : (n : Name) (es : List Known) → tally (is_of n) es ≡ 0 → AreOthers n es
none_others n [] h = tt
none_others n (e ∷ es) h = by (is_of n e) refl h (none_others n es)
  where
    by : (b : Bool) → is_of n e ≡ b → cond b 1 0 + tally (is_of n) es ≡ 0 → (tally (is_of n) es ≡ 0 → AreOthers n es) → (is_of n e ≡ false) × AreOthers n es
    by true g k rest = absurd (omega arith)
    by false g k rest = (g, rest (omega (arith, k)))

pub others_none : (n : Name) (es : List Known) → AreOthers n es → tally (is_of n) es ≡ 0
others_none n [] h = refl
others_none n (e ∷ es) h = ap (λ b. cond b 1 0 + tally (is_of n) es) h.0 ∙ by (others_none n es h.1)
  where
    by : tally (is_of n) es ≡ 0 → 0 + tally (is_of n) es ≡ 0
    by g = omega (arith, g)

below_one : (b : Bool) (t : ℕ) → cond b 1 0 + t ≤ 1 → t ≤ 1
below_one true t h = omega (arith, h)
below_one false t h = omega (arith, h)

pub once_rest : (e : Known) (es : List Known) → AreOnce (e ∷ es) → AreOnce es
once_rest e es once = λ n. below_one (is_of n e) (tally (is_of n) es) (once n)

-- where the first entry has a name, no other has it
first_none : (b : Bool) (t : ℕ) → b ≡ true → cond b 1 0 + t ≤ 1 → t ≡ 0
first_none true t g h = omega (arith, h)
first_none false t g h = absurd cc

pub once_others : (n : Name) (e : Known) (es : List Known) → AreOnce (e ∷ es) → is_of n e ≡ true → AreOthers n es
once_others n e es once named = none_others n es (first_none (is_of n e) (tally (is_of n) es) named (once n))

later_other : (b : Bool) (t : ℕ) → 0 < t → cond b 1 0 + t ≤ 1 → b ≡ false
later_other true t some h = absurd (omega (arith, some, h))
later_other false t some h = refl

pub only_at : (n : Name) (es : List Known) (k : ℕ) (e : Known) → AreOnce es → slice_get es k ≡ Some e → is_of n e ≡ true → IsOnlyAt n es k e
only_at n [] k e once h named = absurd cc
only_at n (x ∷ es) zero e once h named =
    let same : x ≡ e = cc in
    record {
      front = [];
      back = es;
      split = ap (λ y. y ∷ es) same;
      at = refl;
      named = named;
      before = tt;
      behind = once_others n x es once (ap (λ y. is_of n y) same ∙ named);
    }
only_at n (x ∷ es) (suc k) e once h named =
    let rest = only_at n es k e (once_rest x es once) h named in
    record {
      front = x ∷ rest.front;
      back = rest.back;
      split = ap (λ ys. x ∷ ys) rest.split;
      at = ap suc rest.at;
      named = named;
      before = (later_other (is_of n x) (tally (is_of n) es) (counted n es k e h named) (once n), rest.before);
      behind = rest.behind;
    }

-- ---- names that have arrived

pub placed : (me : ℕ) (n : Name) (es : List Known) (k : ℕ) → IsPlaceOf n (map (arrival_of me) es) k → (e : Known) × (slice_get es k ≡ Some e) × (is_of n e ≡ true)
placed me n [] k h = absurd cc
placed me n (e ∷ es) zero h = (e, refl, name_same e.entry.name n (let g : Some e.entry.name ≡ Some n = h in cc))
placed me n (e ∷ es) (suc k) h = placed me n es k h

pub new_others : (me : ℕ) (n : Name) (es : List Known) → IsNew n (map (arrival_of me) es) → AreOthers n es
new_others me n [] h = tt
new_others me n (e ∷ es) h = (name_other e.entry.name n h.0, new_others me n es h.1)

pub others_new : (me : ℕ) (n : Name) (es : List Known) → AreOthers n es → IsNew n (map (arrival_of me) es)
others_new me n [] h = tt
others_new me n (e ∷ es) h = ((λ same. (let g = sym (name_same e.entry.name n same) ∙ h.0 in cc)), others_new me n es h.1)

pub new_arrived : (n : Name) (xs : List Arrival) → IsNew n xs → false ≡ has_arrived n xs
new_arrived n [] h = refl
new_arrived n (a ∷ xs) h = new_arrived n xs h.1 ∙ ap (λ b. b || has_arrived n xs) (sym (name_other a.name n h.0))

pub place_arrived : (n : Name) (xs : List Arrival) (k : ℕ) → IsPlaceOf n xs k → true ≡ has_arrived n xs
place_arrived n [] k h = absurd cc
place_arrived n (a ∷ xs) zero h = ap (λ b. b || has_arrived n xs) (sym (name_same a.name n (let g : Some a.name ≡ Some n = h in cc)))
place_arrived n (a ∷ xs) (suc k) h = by (name_eq a.name n) (place_arrived n xs k h)
  where
    by : (b : Bool) → true ≡ has_arrived n xs → true ≡ (b || has_arrived n xs)
    by true g = refl
    by false g = g

pub arrived_known : (me : ℕ) (n : Name) (es : List Known) → has_arrived n (map (arrival_of me) es) ≡ is_known es n
arrived_known me n es = any_map (λ (a : Arrival). name_eq a.name n) (arrival_of me) es

pub arrived_is : (me : ℕ) (n : Name) (xs : List Arrival) (es : List Known) → xs ≡ map (arrival_of me) es → has_arrived n xs ≡ is_known es n
arrived_is me n xs es same = ap (λ ys. has_arrived n ys) same ∙ arrived_known me n es

pub unknown_others : (n : Name) (es : List Known) → is_known es n ≡ false → AreOthers n es
unknown_others n es h = none_any (is_of n) es h

pub unknown_new : (me : ℕ) (n : Name) (xs : List Arrival) (es : List Known) → xs ≡ map (arrival_of me) es → is_known es n ≡ false → IsNew n xs
unknown_new me n xs es same h = subst (λ ys. IsNew n ys) (sym same) (others_new me n es (unknown_others n es h))

pub found_new : (me : ℕ) (n : Name) (xs : List Arrival) (es : List Known) → xs ≡ map (arrival_of me) es → IsNew n xs → AreOthers n es
found_new me n xs es same h = new_others me n es (subst (λ ys. IsNew n ys) same h)

pub found_place : (me : ℕ) (n : Name) (xs : List Arrival) (es : List Known) (k : ℕ) → xs ≡ map (arrival_of me) es → IsPlaceOf n xs k → (e : Known) × (slice_get es k ≡ Some e) × (is_of n e ≡ true)
found_place me n xs es k same h = placed me n es k (subst (λ ys. IsPlaceOf n ys k) same h)

pub found_none : (me : ℕ) (n : Name) (xs : List Arrival) (es : List Known) (k : ℕ) (o : Option Known) → xs ≡ map (arrival_of me) es → IsPlaceOf n xs k → o ≡ slice_get es k → o ≡ None → AreOthers n es
found_none me n xs es k o same h at is = let f = found_place me n xs es k same h in let x : None ≡ Some f.0 = sym is ∙ at ∙ f.1 in absurd cc

pub found_some : (me : ℕ) (n : Name) (xs : List Arrival) (es : List Known) (k : ℕ) (o : Option Known) (e : Known) → xs ≡ map (arrival_of me) es → IsPlaceOf n xs k → o ≡ slice_get es k → o ≡ Some e → AreOnce es → IsOnlyAt n es k e
found_some me n xs es k o e same h at is once =
    let f = found_place me n xs es k same h in
    let there : slice_get es k ≡ Some e = sym at ∙ is in
    let x : Some f.0 ≡ Some e = sym f.1 ∙ there in
    let y : f.0 ≡ e = cc in
    only_at n es k e once there (ap (λ z. is_of n z) (sym y) ∙ f.2)

-- ---- what is found under a name

pub look_others : (n : Name) (es : List Known) → AreOthers n es → look es n ≡ None
look_others n [] h = refl
look_others n (e ∷ es) h = ap (λ b. cond b (Some e) (look es n)) h.0 ∙ look_others n es h.1

pub look_apart : (n : Name) (front back : List Known) (e : Known) → AreOthers n front → is_of n e ≡ true → look (front ++ e ∷ back) n ≡ Some e
look_apart n [] back e before named = ap (λ b. cond b (Some e) (look back n)) named
look_apart n (x ∷ front) back e before named = ap (λ b. cond b (Some x) (look (front ++ e ∷ back) n)) before.0 ∙ look_apart n front back e before.1 named

pub look_at : (n : Name) (es : List Known) (k : ℕ) (e : Known) → IsOnlyAt n es k e → look es n ≡ Some e
look_at n es k e at = ap (λ ys. look ys n) at.split ∙ look_apart n at.front at.back e at.before at.named

pub recorded_look : (n : Name) (es : List Known) → recorded n es ≡ option_map (λ e. e.entry) (look es n)
recorded_look n [] = refl
recorded_look n (e ∷ es) = ap (λ o. cond (is_of n e) (Some e.entry) o) (recorded_look n es) ∙ by (is_of n e)
  where
    by : (b : Bool) → cond b (Some e.entry) (option_map (λ x. x.entry) (look es n)) ≡ option_map (λ x. x.entry) (cond b (Some e) (look es n))
    by true = refl
    by false = refl

pub recorded_others : (n : Name) (es : List Known) → AreOthers n es → recorded n es ≡ None
recorded_others n es h = recorded_look n es ∙ ap (λ (o : Option Known). option_map (λ e. e.entry) o) (look_others n es h)

pub recorded_at : (n : Name) (es : List Known) (k : ℕ) (e : Known) → IsOnlyAt n es k e → recorded n es ≡ Some e.entry
recorded_at n es k e at = recorded_look n es ∙ ap (λ (o : Option Known). option_map (λ x. x.entry) o) (look_at n es k e at)

pub get_only : (n : Name) (es : List Known) (k : ℕ) (e : Known) → IsOnlyAt n es k e → slice_get es k ≡ Some e
get_only n es k e at = ap (λ ys. slice_get ys k) at.split ∙ ap (λ i. slice_get (at.front ++ e ∷ at.back) i) at.at ∙ by at.front
  where
    by : (front : List Known) → slice_get (front ++ e ∷ at.back) (length front) ≡ Some e
    by [] = refl
    by (x ∷ front) = by front

pub usable_only : (P : Known → Type 0) (n : Name) (es : List Known) (k : ℕ) (e : Known) → Each P es → IsOnlyAt n es k e → P e
usable_only P n es k e all at = all_get P es k e all (get_only n es k e at)
