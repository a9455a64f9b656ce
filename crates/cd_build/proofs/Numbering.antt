-- Numbers by places are those of a table of names; and what stands before a marked record.
use Rattle.std.proofs.Common.{◌≡◌, ℕ, zero, suc, ◌≤◌, Bool, true, false, cond, List, [], ◌∷◌, ◌++◌, length, take, refl, ap, ap₂, sym, ◌∙◌, subst, arith, append_assoc, append-nil}
use Rattle.std.specs.Prelude.{slice_get, unwrap_or, Option, Some, None}
use Rattle.std.proofs.lemmas.List.{length-take}
use Rattle.cd_acts.specs.Indexed.{AreOnce, AreOthers, IsOnlyAt}
use Rattle.cd_acts.proofs.Names.{once_others, once_rest, only_at, recorded_others}
use Rattle.cd_alone.specs.Derived.{Line, Made, made_none, made_more, Numbered, number_in, picked}
use Rattle.cd_laws.specs.Rooted.{AreLed}
use Rattle.cd_ledger.specs.Records.{is_of, recorded}
use Rattle.cd_ledger.specs.declared.records.Known.{Known}
use Rattle.cd_ledger.specs.declared.records.Record.{Record}
use Rattle.cd_list.proofs.Lists.{all_left, all_right, get_at}
use Rattle.cd_machine.specs.Right.{Lead}
use Rattle.cd_names.specs.Names.{name_eq}
use Rattle.cd_names.specs.declared.names.Name.{Name}
use Rattle.cd_read.specs.declared.problem.Problem.{Problem}
use Rattle.cd_build.specs.Building.{number_of}

-- ---- the number of a name, by its place

pub number_others : (n : Name) (es : List Known) (ns : List ℕ) → AreOthers n es → number_of es ns n ≡ 0
number_others n [] ns h = refl
number_others n (e ∷ es) [] h = refl
number_others n (e ∷ es) (k ∷ ks) h = ap (λ (b : Bool). cond b k (number_of es ks n)) h.0 ∙ number_others n es ks h.1

number_apart : (n : Name) (front back : List Known) (e : Known) (ns : List ℕ) → AreOthers n front → is_of n e ≡ true → number_of (front ++ e ∷ back) ns n ≡ unwrap_or (slice_get ns (length front)) 0
number_apart n [] back e [] before named = refl
number_apart n [] back e (k ∷ ks) before named = ap (λ (b : Bool). cond b k (number_of back ks n)) named
number_apart n (x ∷ front) back e [] before named = refl
number_apart n (x ∷ front) back e (k ∷ ks) before named =
    ap (λ (b : Bool). cond b k (number_of (front ++ e ∷ back) ks n)) before.0 ∙ number_apart n front back e ks before.1 named

pub number_only : (n : Name) (es : List Known) (place : ℕ) (e : Known) (ns : List ℕ) → IsOnlyAt n es place e → number_of es ns n ≡ unwrap_or (slice_get ns place) 0
number_only n es place e ns at =
    ap (λ (xs : List Known). number_of xs ns n) at.split ∙ number_apart n at.front at.back e ns at.before at.named ∙ ap (λ (k : ℕ). unwrap_or (slice_get ns k) 0) (sym at.at)

-- ---- a number more

pub number_none : (n : Name) (es : List Known) → number_of es [] n ≡ 0
number_none n [] = refl
number_none n (e ∷ es) = refl

pub number_zero : (n : Name) (es : List Known) (ns : List ℕ) → number_of es (ns ++ 0 ∷ []) n ≡ number_of es ns n
number_zero n [] ns = refl
number_zero n (e ∷ es) [] = by (is_of n e) (number_none n es)
  where
    by : (b : Bool) → number_of es [] n ≡ 0 → cond b 0 (number_of es [] n) ≡ 0
    by true h = refl
    by false h = h
number_zero n (e ∷ es) (k ∷ ks) = ap (λ (j : ℕ). cond (is_of n e) k j) (number_zero n es ks)

pub number_other : (n : Name) (es : List Known) (ns : List ℕ) (k : ℕ) (e : Known) → slice_get es (length ns) ≡ Some e → is_of n e ≡ false → number_of es (ns ++ k ∷ []) n ≡ number_of es ns n
number_other n [] ns k e there other = absurd cc
number_other n (x ∷ es) [] k e there other =
    let same : x ≡ e = cc in
    ap (λ (b : Bool). cond b k (number_of es [] n)) (ap (λ (y : Known). is_of n y) same ∙ other) ∙ number_none n es
number_other n (x ∷ es) (m ∷ ns) k e there other = ap (λ (j : ℕ). cond (is_of n x) m j) (number_other n es ns k e there other)

pub number_here : (n : Name) (es : List Known) (ns : List ℕ) (k : ℕ) (e : Known) → AreOnce es → slice_get es (length ns) ≡ Some e → is_of n e ≡ true → number_of es (ns ++ k ∷ []) n ≡ k
number_here n es ns k e once there named =
    number_only n es (length ns) e (ns ++ k ∷ []) (only_at n es (length ns) e once there named) ∙ ap (λ (o : Option ℕ). unwrap_or o 0) (get_at ns [] k)

-- ---- the table

pub table_other : (n : Name) (ts : List Numbered) (t : Numbered) → name_eq t.name n ≡ false → number_in (ts ++ t ∷ []) n ≡ number_in ts n
table_other n [] t other = ap (λ (b : Bool). cond b t.number 0) other
table_other n (u ∷ ts) t other = ap (λ (j : ℕ). cond (name_eq u.name n) u.number j) (table_other n ts t other)

pub table_others : (p : Problem) (n : Name) (es : List Known) (ts : List Numbered) (ls : List Line) → Made p es ts ls → AreOthers n es → (us : List Numbered) → number_in (ts ++ us) n ≡ number_in us n
table_others p n _ _ _ made_none others us = refl
table_others p n _ _ _ (made_more front numbers before e here end m steps) others us =
    let t : Numbered = record { name = e.entry.name; number = end } in
    let first = all_left (λ (x : Known). is_of n x ≡ false) front (e ∷ []) others in
    let last = all_right (λ (x : Known). is_of n x ≡ false) front (e ∷ []) others in
    ap (λ (xs : List Numbered). number_in xs n) (append_assoc numbers (t ∷ []) us) ∙ table_others p n front numbers before m first (t ∷ us) ∙ ap (λ (b : Bool). cond b end (number_in us n)) last.0

-- ---- marked entries

pub picked_next : (bs : List Bool) (es : List Known) (i : ℕ) (b : Bool) (e : Known) → slice_get bs i ≡ Some b → slice_get es i ≡ Some e → picked (take (suc i) bs) es ≡ picked (take i bs) es ++ cond b (e ∷ []) []
picked_next [] es i b e marked there = absurd cc
picked_next (x ∷ bs) [] i b e marked there = absurd cc
picked_next (x ∷ bs) (y ∷ es) zero b e marked there =
    let same : x ≡ b = cc in
    let own : y ≡ e = cc in
    ap₂ (λ (c : Bool) (z : Known). cond c (z ∷ []) []) same own
picked_next (x ∷ bs) (y ∷ es) (suc i) b e marked there = by x (picked_next bs es i b e marked there)
  where
    by : (x : Bool) → picked (take (suc i) bs) es ≡ picked (take i bs) es ++ cond b (e ∷ []) []
        → cond x (y ∷ picked (take (suc i) bs) es) (picked (take (suc i) bs) es) ≡ cond x (y ∷ picked (take i bs) es) (picked (take i bs) es) ++ cond b (e ∷ []) []
    by true h = ap (λ (xs : List Known). y ∷ xs) h
    by false h = h

picked_others : (n : Name) (bs : List Bool) (front rest : List Known) → length bs ≤ length front → AreOthers n front → AreOthers n (picked bs (front ++ rest))
picked_others n [] front rest few others = tt
picked_others n (b ∷ bs) [] rest few others = absurd (omega (arith, few))
picked_others n (true ∷ bs) (x ∷ front) rest few others = (others.0, picked_others n bs front rest (omega (arith, few)) others.1)
picked_others n (false ∷ bs) (x ∷ front) rest few others = picked_others n bs front rest (omega (arith, few)) others.1

-- no entry before the one in a place has its name
pub before_others : (n : Name) (bs : List Bool) (es : List Known) (i : ℕ) (e : Known) → AreOnce es → slice_get es i ≡ Some e → is_of n e ≡ true → AreOthers n (picked (take i bs) es)
before_others n bs es i e once there named =
    let at = only_at n es i e once there named in
    subst (λ (xs : List Known). AreOthers n (picked (take i bs) xs)) (sym at.split) (picked_others n (take i bs) at.front (e ∷ at.back) (omega (arith, length-take i bs, at.at)) at.before)

-- the steps of a marked entry lead over the marked ones before it
led_from : (p : Problem) (front : List Known) (bs : List Bool) (es : List Known) (i : ℕ) (e : Known) → AreLed p front (picked bs es) → slice_get bs i ≡ Some true → slice_get es i ≡ Some e
    → Lead p (λ n. recorded n (front ++ picked (take i bs) es)) None e.entry.steps e.entry.clause
led_from p front [] es i e led marked there = absurd cc
led_from p front (b ∷ bs) [] i e led marked there = absurd cc
led_from p front (true ∷ bs) (y ∷ es) zero e led marked there =
    let same : y ≡ e = cc in
    subst (λ (xs : List Known). Lead p (λ n. recorded n xs) None e.entry.steps e.entry.clause) (sym (append-nil front)) (subst (λ (x : Known). Lead p (λ n. recorded n front) None x.entry.steps x.entry.clause) same led.0.0)
led_from p front (false ∷ bs) (y ∷ es) zero e led marked there = absurd (let z : false ≡ true = cc in cc)
led_from p front (true ∷ bs) (y ∷ es) (suc i) e led marked there =
    subst (λ (xs : List Known). Lead p (λ n. recorded n xs) None e.entry.steps e.entry.clause) (append_assoc front (y ∷ []) (picked (take i bs) es)) (led_from p (front ++ y ∷ []) bs es i e led.1 marked there)
led_from p front (false ∷ bs) (y ∷ es) (suc i) e led marked there = led_from p front bs es i e led marked there

pub led_at : (p : Problem) (bs : List Bool) (es : List Known) (i : ℕ) (e : Known) → AreLed p [] (picked bs es) → slice_get bs i ≡ Some true → slice_get es i ≡ Some e
    → Lead p (λ n. recorded n (picked (take i bs) es)) None e.entry.steps e.entry.clause
led_at p bs es i e led marked there = led_from p [] bs es i e led marked there

-- what has a name among marked entries has it among all
pub recorded_grows : (n : Name) (bs : List Bool) (es : List Known) (r : Record) → AreOnce es → recorded n (picked bs es) ≡ Some r → recorded n es ≡ Some r
recorded_grows n [] es r once h = absurd (let z : None ≡ Some r = h in cc)
recorded_grows n (b ∷ bs) [] r once h = absurd (let z : None ≡ Some r = h in cc)
recorded_grows n (true ∷ bs) (e ∷ es) r once h = by (is_of n e) h (recorded_grows n bs es r (once_rest e es once))
  where
    by : (b : Bool) → cond b (Some e.entry) (recorded n (picked bs es)) ≡ Some r → (recorded n (picked bs es) ≡ Some r → recorded n es ≡ Some r) → cond b (Some e.entry) (recorded n es) ≡ Some r
    by true g later = g
    by false g later = later g
recorded_grows n (false ∷ bs) (e ∷ es) r once h = by (is_of n e) refl (recorded_grows n bs es r (once_rest e es once) h)
  where
    none_before : (bs : List Bool) (xs : List Known) → AreOthers n xs → AreOthers n (picked bs xs)
    none_before [] xs others = tt
    none_before (b ∷ bs) [] others = tt
    none_before (true ∷ bs) (x ∷ xs) others = (others.0, none_before bs xs others.1)
    none_before (false ∷ bs) (x ∷ xs) others = none_before bs xs others.1

    by : (b : Bool) → is_of n e ≡ b → recorded n es ≡ Some r → cond b (Some e.entry) (recorded n es) ≡ Some r
    by true named later =
        let none : recorded n (picked bs es) ≡ None = recorded_others n (picked bs es) (none_before bs es (once_others n e es once named)) in
        absurd (let z : None ≡ Some r = sym none ∙ h in cc)
    by false other later = later
