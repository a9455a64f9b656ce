-- Laws of counts, marks and filters.
use Rattle.std.proofs.Common.{◌≡◌, ℕ, zero, suc, ◌+◌, ◌<◌, ◌≤◌, Bool, true, false, ◌&&◌, ◌||◌, not, cond, List, [], ◌∷◌, ◌++◌, arith, refl, ap, sym, ◌∙◌, subst}
use Rattle.std.specs.Prelude.{slice_get, slice_set, remove, filter, find, Option, Some, None}
use Rattle.cd_list.specs.Lists.{tally}
use Rattle.std.specs.List.{AllByRecursion as Each, list_any}
use Rattle.std.specs.Prelude.{filter_map}
use Rattle.std.specs.List.{cons_option}
use Rattle.cd_machine.specs.Lists.{IsFirst}
pub use Rattle.cd_list.proofs.Lists.{all_append as Each_append, all_map as Each_map, all_left as Each_left, all_right as Each_right, all_remove as Each_remove, all_set as Each_set}
pub use Rattle.cd_list.proofs.Tally.{tally_append, tally_push, tally_map}

pub and_true : (a b : Bool) → (a && b) ≡ true → (a ≡ true) × (b ≡ true)
and_true true b h = (refl, h)
and_true false b h = cc

pub not_true : (b : Bool) → not b ≡ true → b ≡ false
not_true true h = cc
not_true false h = refl

-- taking out the element at a place
pub tally_remove : {A : Type 0} (p : A → Bool) (xs : List A) (k : ℕ) (x : A) → slice_get xs k ≡ Some x → tally p xs ≡ tally p (remove xs k) + cond (p x) 1 0
tally_remove p [] k x h = cc
tally_remove p (y ∷ xs) zero x h = let e : y ≡ x = cc in rw e (omega arith)
tally_remove p (y ∷ xs) (suc k) x h = omega (arith, tally_remove p xs k x h)

-- changing the element at a place
pub tally_set : {A : Type 0} (p : A → Bool) (xs : List A) (k : ℕ) (x y : A) → slice_get xs k ≡ Some x → p y ≡ p x → tally p (slice_set xs k y) ≡ tally p xs
tally_set p [] k x y h g = cc
tally_set p (z ∷ xs) zero x y h g = let e : z ≡ x = cc in rw (e, g) refl
tally_set p (z ∷ xs) (suc k) x y h g = ap (λ n. cond (p z) 1 0 + n) (tally_set p xs k x y h g)

pub Each_push : {A : Type 0} (P : A → Type 0) (xs : List A) (y : A) → Each P xs → P y → Each P (xs ++ y ∷ [])
Each_push P xs y h g = Each_append P xs (y ∷ []) h (g, tt)

pub Each_weaker : {A : Type 0} (P Q : A → Type 0) → ((x : A) → P x → Q x) → (xs : List A) → Each P xs → Each Q xs
Each_weaker P Q i [] h = tt
Each_weaker P Q i (x ∷ xs) h = (i x h.0, Each_weaker P Q i xs h.1)

pub Each_all : {A : Type 0} (P : A → Type 0) → ((x : A) → P x) → (xs : List A) → Each P xs
Each_all P i [] = tt
Each_all P i (x ∷ xs) = (i x, Each_all P i xs)

pub Each_both : {A : Type 0} (P Q : A → Type 0) (xs : List A) → Each P xs → Each Q xs → Each (λ x. P x × Q x) xs
Each_both P Q [] h g = tt
Each_both P Q (x ∷ xs) h g = ((h.0, g.0), Each_both P Q xs h.1 g.1)

pub Each_at : {A : Type 0} (P : A → Type 0) (xs : List A) (k : ℕ) (x : A) → slice_get xs k ≡ Some x → Each P xs → P x
Each_at P [] k x e h = cc
Each_at P (y ∷ xs) zero x e h = let e' : y ≡ x = cc in rw e' at h.0
Each_at P (y ∷ xs) (suc k) x e h = Each_at P xs k x e h.1

pub Each_filter : {A : Type 0} (P : A → Type 0) (t : A → Bool) (xs : List A) → Each P xs → Each P (filter t xs)
Each_filter P t [] h = tt
Each_filter P t (x ∷ xs) h = elim (t x) as (λ b. Each P (cond b (x ∷ filter t xs) (filter t xs))) [ true ↦ (h.0, Each_filter P t xs h.1) | false ↦ Each_filter P t xs h.1 ]

pub Each_first : {A : Type 0} (P Q : A → Type 0) (xs : List A) (x : A) → IsFirst P xs x → Each Q xs → P x × Q x
Each_first P Q xs x f h = (f.is, (Each_right Q f.front (x ∷ f.back) (subst (Each Q) f.split h)).0)

pub Each_gather : {A B : Type 0} (P : B → Type 0) (f : A → Option B) (xs : List A) → Each (λ x. Each P (cons_option (f x) [])) xs → Each P (filter_map f xs)
Each_gather P f [] h = tt
Each_gather P f (x ∷ xs) h = go (f x) h.0 (Each_gather P f xs h.1)
  where
    go : (o : Option _) → Each P (cons_option o []) → Each P (filter_map f xs) → Each P (cons_option o (filter_map f xs))
    go None a r = r
    go (Some y) a r = (a.0, r)

pub some_of_tally : {A : Type 0} (p : A → Bool) (xs : List A) → list_any p xs ≡ true → 0 < tally p xs
some_of_tally p [] h = cc
some_of_tally p (x ∷ xs) h = elim (p x) as (λ b. (b || list_any p xs) ≡ true → 0 < cond b 1 0 + tally p xs) [ true ↦ λ g. omega arith | false ↦ λ g. omega (arith, some_of_tally p xs g) ] h

pub none_of_tally : {A : Type 0} (p : A → Bool) (xs : List A) → list_any p xs ≡ false → tally p xs ≡ 0
none_of_tally p [] h = refl
none_of_tally p (x ∷ xs) h = elim (p x) as (λ b. (b || list_any p xs) ≡ false → cond b 1 0 + tally p xs ≡ 0) [ true ↦ λ g. cc | false ↦ λ g. omega (arith, none_of_tally p xs g) ] h

pub tally_none_of : {A : Type 0} (p : A → Bool) (xs : List A) → tally p xs ≡ 0 → list_any p xs ≡ false
tally_none_of p [] h = refl
tally_none_of p (x ∷ xs) h = elim (p x) as (λ b. cond b 1 0 + tally p xs ≡ 0 → (b || list_any p xs) ≡ false) [ true ↦ λ g. absurd (omega arith) | false ↦ λ g. tally_none_of p xs (omega (arith, g)) ] h

pub tally_same : {A : Type 0} (p q : A → Bool) → ((x : A) → p x ≡ q x) → (xs : List A) → tally p xs ≡ tally q xs
tally_same p q h [] = refl
tally_same p q h (x ∷ xs) = rw (h x) (omega (arith, tally_same p q h xs))

pub tally_none : {A : Type 0} (p : A → Bool) → ((x : A) → p x ≡ false) → (xs : List A) → tally p xs ≡ 0
tally_none p h [] = refl
tally_none p h (x ∷ xs) = rw (h x) (omega (arith, tally_none p h xs))

pub tally_put : {A : Type 0} (p : A → Bool) (o : Option A) (xs : List A) → tally p (cons_option o xs) ≡ tally p (cons_option o []) + tally p xs
tally_put p None xs = omega arith
tally_put p (Some x) xs = omega arith

-- a gathered list, counted part by part
pub tally_gather : {A B : Type 0} (p : B → Bool) (f : A → Option B) (q : A → Bool) → ((x : A) → tally p (cons_option (f x) []) ≡ cond (q x) 1 0) → (xs : List A) → tally p (filter_map f xs) ≡ tally q xs
tally_gather p f q h [] = refl
tally_gather p f q h (x ∷ xs) = omega (arith, tally_put p (f x) (filter_map f xs), h x, tally_gather p f q h xs)

pub tally_le : {A : Type 0} (p q : A → Bool) → ((x : A) → p x ≡ true → q x ≡ true) → (xs : List A) → tally p xs ≤ tally q xs
tally_le p q i [] = omega arith
tally_le p q i (x ∷ xs) = go (p x) (q x) (i x) (tally_le p q i xs)
  where
    go : (a b : Bool) → (a ≡ true → b ≡ true) → tally p xs ≤ tally q xs → cond a 1 0 + tally p xs ≤ cond b 1 0 + tally q xs
    go true true f h = omega arith
    go true false f h = absurd (let e : false ≡ true = f refl in cc)
    go false true f h = omega arith
    go false false f h = omega arith

pub tally_filter : {A : Type 0} (p q : A → Bool) (c : Bool) → ((x : A) → p x ≡ true → q x ≡ c) → (xs : List A) → tally p (filter q xs) ≡ cond c (tally p xs) 0
tally_filter p q c h [] = elim c as (λ b. ◌≡◌ {A = ℕ} 0 (cond b 0 0)) [ true ↦ refl | false ↦ refl ]
tally_filter p q c h (x ∷ xs) = go (p x) (q x) refl refl (tally_filter p q c h xs)
  where
    go : (a b : Bool) → p x ≡ a → q x ≡ b → tally p (filter q xs) ≡ cond c (tally p xs) 0 → tally p (cond b (x ∷ filter q xs) (filter q xs)) ≡ cond c (cond a 1 0 + tally p xs) 0
    go true true e f ih = let k : true ≡ c = sym f ∙ h x e in rw (← k) (rw e (rw (← k) at (ap (λ n. 1 + n) ih)))
    go true false e f ih = let k : false ≡ c = sym f ∙ h x e in rw (← k) (rw (← k) at ih)
    go false true e f ih = rw e (elim c as (λ v. tally p (filter q xs) ≡ cond v (tally p xs) 0 → 0 + tally p (filter q xs) ≡ cond v (0 + tally p xs) 0) [ true ↦ λ g. omega arith | false ↦ λ g. omega arith ] ih)
    go false false e f ih = elim c as (λ v. tally p (filter q xs) ≡ cond v (tally p xs) 0 → tally p (filter q xs) ≡ cond v (0 + tally p xs) 0) [ true ↦ λ g. omega arith | false ↦ λ g. g ] ih

pub tally_under : {A : Type 0} (p q : A → Bool) (xs : List A) → tally (λ x. p x && q x) xs ≤ tally p xs
tally_under p q xs = tally_le (λ x. p x && q x) p (λ x h. (and_true (p x) (q x) h).0) xs

pub some_none : {A : Type 0} (p q : A → Bool) (xs : List A) → tally p xs ≡ 0 → list_any (λ x. p x && q x) xs ≡ false
some_none p q [] h = refl
some_none p q (x ∷ xs) h = go (p x) (q x) h (some_none p q xs)
  where
    go : (a b : Bool) → cond a 1 0 + tally p xs ≡ 0 → (tally p xs ≡ 0 → list_any (λ x. p x && q x) xs ≡ false) → ((a && b) || list_any (λ x. p x && q x) xs) ≡ false
    go true b h ih = absurd (omega arith)
    go false b h ih = ih (omega arith)

pub found : {A : Type 0} (p : A → Bool) (xs : List A) → list_any p xs ≡ true → (x : A) × (find p xs ≡ Some x)
found p [] h = cc
found p (x ∷ xs) h = elim (p x) as (λ b. (b || list_any p xs) ≡ true → (y : _) × (cond b (Some x) (find p xs) ≡ Some y)) [ true ↦ λ g. (x, refl) | false ↦ λ g. found p xs g ] h

-- the first that passes is one of the list, and passes
pub find_is : {A : Type 0} (P : A → Type 0) (p : A → Bool) (xs : List A) (x : A) → find p xs ≡ Some x → Each P xs → P x × (p x ≡ true)
find_is P p [] x e h = cc
find_is P p (y ∷ xs) x e h = go (λ f. find_is P p xs x f h.1) (p y) refl e
  where
    go : (find p xs ≡ Some x → P x × (p x ≡ true)) → (b : Bool) → p y ≡ b → cond b (Some y) (find p xs) ≡ Some x → P x × (p x ≡ true)
    go rest true g f = let s : y ≡ x = cc in (subst (λ (z : _). P z) s h.0, ap p (sym s) ∙ g)
    go rest false g f = rest f

-- where one passes, one of the list with P passes
pub tally_some : {A : Type 0} (P : A → Type 0) (p : A → Bool) (xs : List A) → Each P xs → 0 < tally p xs → (x : A) × P x × (p x ≡ true)
tally_some P p [] h c = absurd (omega arith)
tally_some P p (x ∷ xs) h c = go (p x) refl c (tally_some P p xs h.1)
  where
    go : (b : Bool) → p x ≡ b → 0 < cond b 1 0 + tally p xs → (0 < tally p xs → (y : _) × P y × (p y ≡ true)) → (y : _) × P y × (p y ≡ true)
    go true e c r = (x, h.0, e)
    go false e c r = r (omega arith)
