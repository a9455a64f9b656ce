-- Labels by their last places.
use Rattle.std.proofs.Common.{◌≡◌, ◌≢◌, ◌⊎◌, inl, inr, ◌∙◌, ◌+◌, ◌-◌, ◌<◌, ◌≤◌, ◌++◌, ◌∷◌, ◌↔◌, [], ℕ, zero, suc, Bool, true, false, List, Option, Some, None, length, take, drop, get_or, slice_get, Contains, if◌then◌else◌, refl, sym, ap, subst, arith, true≢false, length-append}
use Rattle.std.specs.Bool.{Decides}
use Rattle.std.specs.Cmp.Lexicographic.{bytes_decides}
use Rattle.std.specs.Prelude.{cond}
use Rattle.std.proofs.lemmas.Bool.{cases_lt}
use Rattle.std.specs.List.{list_any, AllByRecursion}
use Rattle.std.proofs.lemmas.List.{take_more}
use Rattle.std.proofs.lemmas.List.Elements.{Contains-append_left, Contains-append_right, Contains-append_cases}
use Rattle.std.proofs.lemmas.List.Folds.{list_any_at, Any-from_list_any}
use Rattle.indexmap.specs.IndexSet.{insert_key}
use Rattle.std.proofs.lemmas.Option.{slice_get_within, slice_get-get_or, get_or_from_slice_get}
use Rattle.cd_symbols.proofs.TableLemmas.{at_append}
use Rattle.indexmap.specs.IndexMap.{get, IndexMap}
use Rattle.cd_parse.specs.declared.label.Label.{Label}
use Rattle.cd_parse.specs.declared.label.Label.TheVariants.{Word, Integer}
use Rattle.cd_parse.specs.contracts.label.LabelPartialEq.TheImpl.{eq-value}
use Rattle.cd_read.specs.Labels.{LastAt, KnowsPlaces}

-- ---- equality

pub same_label : (a b : Label) → Decides (eq-value.it a b) (a ≡ b)
same_label (Word t) (Word u) = (λ e. ap (λ (x : List ℕ). Word x) ((bytes_decides t u).0 e), λ e. (bytes_decides t u).1 (cc))
same_label (Integer t) (Integer u) = (λ e. ap (λ (x : List ℕ). Integer x) ((bytes_decides t u).0 e), λ e. (bytes_decides t u).1 (cc))
same_label (Word t) (Integer u) = (λ e. absurd (true≢false (sym e)), λ e. absurd (cc))
same_label (Integer t) (Word u) = (λ e. absurd (true≢false (sym e)), λ e. absurd (cc))

-- ---- places

pub at_drop : {A : Type 0} (n : ℕ) (xs : List A) (k : ℕ) → slice_get (drop n xs) k ≡ slice_get xs (n + k)
at_drop zero xs k = ap (slice_get xs) (let e : k ≡ 0 + k = omega arith in e)
at_drop (suc n) [] k = refl
at_drop (suc n) (x ∷ xs) k = at_drop n xs k ∙ ap (slice_get (x ∷ xs)) (let e : suc (n + k) ≡ suc n + k = omega arith in e)

pub contains_at : {A : Type 0} (xs : List A) (x : A) (k : ℕ) → slice_get xs k ≡ Some x → Contains xs x
contains_at xs x k e = (k, slice_get_within xs k x e, get_or_from_slice_get xs k x x e)

pub place_of : {A : Type 0} (xs : List A) (x : A) → Contains xs x → (k : ℕ) × (slice_get xs k ≡ Some x)
place_of xs x (k, lt, is) = (k, slice_get-get_or xs k x lt ∙ ap Some is)

pub at_last : {A : Type 0} (xs : List A) (x : A) → slice_get (xs ++ x ∷ []) (length xs) ≡ Some x
at_last [] x = refl
at_last (y ∷ xs) x = at_last xs x

at_front : {A : Type 0} (xs : List A) (x y : A) (k : ℕ) → slice_get xs k ≡ Some y → slice_get (xs ++ x ∷ []) k ≡ Some y
at_front [] x y k e = absurd (cc)
at_front (z ∷ xs) x y zero e = e
at_front (z ∷ xs) x y (suc k) e = at_front xs x y k e

-- ---- one label more

new_last : (labels : List Label) (l m : Label) → l ≡ m → LastAt (labels ++ l ∷ []) m (Some (length labels))
new_last labels l m e = (
  at_last labels l ∙ ap Some e,
  λ k above at.
      omega (arith, above, slice_get_within (labels ++ l ∷ []) k m at, length-append labels (l ∷ [])),
)

old_last : (labels : List Label) (l m : Label) (o : Option ℕ) → l ≢ m → LastAt labels m o → LastAt (labels ++ l ∷ []) m o
old_last labels l m (Some n) other last = (
  at_front labels l m n last.0,
  λ k above at. elim (at_append labels l m k at) [
    | inl old ↦ last.1 k above old
    | inr new ↦ other new
  ],
)
old_last labels l m None other last = λ k at. elim (at_append labels l m k at) [
  | inl old ↦ last k old
  | inr new ↦ other new
]

pub known_more : {S : Type 0} (labels : List Label) (old new : IndexMap Label ℕ S) (l : Label) → KnowsPlaces labels old →
    ((m : Label) → get eq-value.it new m ≡ cond (eq-value.it l m) (Some (length labels)) (get eq-value.it old m))
    → KnowsPlaces (labels ++ l ∷ []) new
known_more labels old new l knows updates m = by (eq-value.it l m) refl
  where
    by : (b : Bool) → eq-value.it l m ≡ b → LastAt (labels ++ l ∷ []) m (get eq-value.it new m)
    by true e = subst (LastAt (labels ++ l ∷ []) m) (sym (updates m ∙ ap (λ b. cond b (Some (length labels)) (get eq-value.it old m)) e)) (new_last labels l m ((same_label l m).0 e))
    by false e = subst (LastAt (labels ++ l ∷ []) m) (sym (updates m ∙ ap (λ b. cond b (Some (length labels)) (get eq-value.it old m)) e))
        (old_last labels l m (get eq-value.it old m) (λ same. true≢false (sym ((same_label l m).1 same) ∙ e)) (knows m))

-- ---- whether a label occurs from a place on

pub later_occurs : (labels : List Label) (l : Label) (n from : ℕ) → LastAt labels l (Some n) → from ≤ n → Contains (drop from labels) l
later_occurs labels l n from last le =
    contains_at (drop from labels) l (n - from)
    (at_drop from labels (n - from) ∙ ap (slice_get labels) (let e : from + (n - from) ≡ n = omega (arith, le) in e) ∙ last.0)

pub occurs_later : (labels : List Label) (l : Label) (n from : ℕ) → LastAt labels l (Some n) → Contains (drop from labels) l → from ≤ n
occurs_later labels l n from last here =
    let at = place_of (drop from labels) l here in
    by at.0 (cases_lt n (from + at.0)) (sym (at_drop from labels at.0) ∙ at.1)
  where
    by : (k : ℕ) → (n < from + k) ⊎ (from + k ≤ n) → slice_get labels (from + k) ≡ Some l → from ≤ n
    by k (inl lt) at = absurd (last.1 (from + k) lt at)
    by k (inr le) at = omega (arith, le)

pub occurs_nowhere : (labels : List Label) (l : Label) (from : ℕ) → LastAt labels l None → Contains (drop from labels) l → ⊥
occurs_nowhere labels l from last here =
    let at = place_of (drop from labels) l here in last (from + at.0) (sym (at_drop from labels at.0) ∙ at.1)

-- ---- sets of labels

pub any_contains : (xs : List Label) (l : Label) → list_any (eq-value.it l) xs ≡ true → Contains xs l
any_contains xs l e =
    let (k, x, within, is, passes) = Any-from_list_any (eq-value.it l) xs e in
    contains_at xs l k (slice_get-get_or xs k x within ∙ ap Some (is ∙ sym ((same_label l x).0 passes)))

pub contains_any : (xs : List Label) (l : Label) → Contains xs l → list_any (eq-value.it l) xs ≡ true
contains_any xs l (k, within, is) = list_any_at (eq-value.it l) xs k l within ((same_label l (get_or xs k l)).1 (sym is))

inserted_cases : (xs : List Label) (x l : Label) → Contains (insert_key eq-value.it xs x) l → Contains xs l ⊎ (l ≡ x)
inserted_cases xs x l here = by (list_any (eq-value.it x) xs) here
  where
    by : (b : Bool) → Contains (if b then xs else xs ++ x ∷ []) l → Contains xs l ⊎ (l ≡ x)
    by true h = inl h
    by false h = elim (Contains-append_cases xs (x ∷ []) l h) [
      | inl old ↦ inl old
      | inr new ↦ inr (one new)
    ]
      where
        one : Contains (x ∷ []) l → l ≡ x
        one (zero, within, is) = sym is
        one (suc k, within, is) = absurd (omega (arith, within))

inserted_old : (xs : List Label) (x l : Label) → Contains xs l → Contains (insert_key eq-value.it xs x) l
inserted_old xs x l here = by (list_any (eq-value.it x) xs)
  where
    by : (b : Bool) → Contains (if b then xs else xs ++ x ∷ []) l
    by true = here
    by false = Contains-append_left xs (x ∷ []) l here

inserted_new : (xs : List Label) (x : Label) → Contains (insert_key eq-value.it xs x) x
inserted_new xs x = by (list_any (eq-value.it x) xs) refl
  where
    by : (b : Bool) → list_any (eq-value.it x) xs ≡ b → Contains (if b then xs else xs ++ x ∷ []) x
    by true e = any_contains xs x e
    by false e = Contains-append_right xs (x ∷ []) x (0, omega arith, refl)

abbrev pub Keeps : List Label → List Label → Label → (Label → Type 0) → Type 0
Keeps old new x W = (l : Label) → Contains new l ↔ (Contains old l ⊎ ((l ≡ x) × W l))

pub kept_new : (old new : List Label) (x : Label) (W : Label → Type 0) → W x → new ≡ insert_key eq-value.it old x → Keeps old new x W
kept_new old new x W wanted e l = (
  λ here. elim (inserted_cases old x l (subst (λ xs. Contains xs l) e here)) [
    | inl before ↦ inl before
    | inr same ↦ inr (same, subst W (sym same) wanted)
  ],
  λ here. subst (λ xs. Contains xs l) (sym e) (back here),
)
  where
    back : Contains old l ⊎ ((l ≡ x) × W l) → Contains (insert_key eq-value.it old x) l
    back (inl before) = inserted_old old x l before
    back (inr now) = subst (Contains (insert_key eq-value.it old x)) (sym now.0) (inserted_new old x)

pub kept_none : (old : List Label) (x : Label) (W : Label → Type 0) → ¬ W x → Keeps old old x W
kept_none old x W unwanted l = (λ here. inl here, back)
  where
    back : Contains old l ⊎ ((l ≡ x) × W l) → Contains old l
    back (inl before) = before
    back (inr now) = absurd (unwanted (subst W now.0 now.1))

-- the wanted ones of the first labels
pub kept_more : (labels kept new : List Label) (i : ℕ) (x : Label) (W : Label → Type 0) → i < length labels → x ≡ get_or labels i x →
    ((l : Label) → Contains kept l ↔ (Contains (take i labels) l × W l)) → Keeps kept new x W → (l : Label)
    → Contains new l ↔ (Contains (take (i + 1) labels) l × W l)
kept_more labels kept new i x W lt at so_far keeps l = (
  λ here. forth ((keeps l).0 here),
  λ both. (keeps l).1 (elim (Contains-append_cases (take i labels) (x ∷ []) l (subst (λ xs. Contains xs l) more both.0)) [
    | inl before ↦ inl ((so_far l).1 (before, both.1))
    | inr new ↦ inr (one new, both.1)
  ]),
)
  where
    more : take (i + 1) labels ≡ take i labels ++ x ∷ []
    more = take_more labels i x lt ∙ ap (λ y. take i labels ++ y ∷ []) (sym at)

    one : Contains (x ∷ []) l → l ≡ x
    one (zero, within, is) = sym is
    one (suc k, within, is) = absurd (omega (arith, within))

    forth : Contains kept l ⊎ ((l ≡ x) × W l) → Contains (take (i + 1) labels) l × W l
    forth (inl before) =
        let p = (so_far l).0 before in (subst (λ xs. Contains xs l) (sym more) (Contains-append_left (take i labels) (x ∷ []) l p.0), p.1)
    forth (inr now) =
        (subst (λ xs. Contains xs l) (sym more) (Contains-append_right (take i labels) (x ∷ []) l (0, omega arith, sym now.0)), now.1)

pub none_contained : (l : Label) → Contains [] l → ⊥
none_contained l (k, within, is) = omega (arith, within)

-- ---- all of a list

pub all_below : {A : Type 0} (P : A → Type 0) (xs : List A) → ((j : ℕ) (x : A) → slice_get xs j ≡ Some x → P x) → AllByRecursion P xs
all_below P [] f = tt
all_below P (x ∷ xs) f = (f 0 x refl, all_below P xs (λ j y e. f (suc j) y e))
