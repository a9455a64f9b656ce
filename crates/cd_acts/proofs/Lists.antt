-- Lists in which one item stands apart from the others.
use Rattle.std.proofs.Common.{◌≡◌, ◌↔◌, ℕ, zero, suc, ◌+◌, ◌<◌, ◌≤◌, Bool, true, false, ◌&&◌, ◌||◌, cond, List, [], ◌∷◌, ◌++◌, length, map, drop, get_or, remove, refl, ap, sym, ◌∙◌, subst, arith}
use Rattle.std.specs.Prelude.{slice_get, slice_set, filter, filter_map, Option, Some, None}
use Rattle.std.specs.List.{cons_option}
use Rattle.std.specs.List.{AllByRecursion as Each, list_any}
use Rattle.std.proofs.lemmas.List.{map-append}
use Rattle.std.proofs.lemmas.List.Elements.{filter_map-append}

pub and_true : (a b : Bool) → (a && b) ≡ true → (a ≡ true) × (b ≡ true)
and_true true b h = (refl, h)
and_true false b h = absurd cc

pub not_true : (b : Bool) → (b ≡ true → ⊥) → b ≡ false
not_true true h = absurd (h refl)
not_true false h = refl

pub map_alike : {A : Type 0} (f : A → A) (xs : List A) → Each (λ x. f x ≡ x) xs → map f xs ≡ xs
map_alike f [] all = refl
map_alike f (x ∷ xs) all = ap (λ y. y ∷ map f xs) all.0 ∙ ap (λ ys. x ∷ ys) (map_alike f xs all.1)

pub map_apart : {A : Type 0} (f : A → A) (front : List A) (x : A) (back : List A) → Each (λ y. f y ≡ y) front → Each (λ y. f y ≡ y) back → map f (front ++ x ∷ back) ≡ front ++ f x ∷ back
map_apart f front x back before behind =
    map-append f front (x ∷ back) ∙ ap (λ ys. ys ++ map f (x ∷ back)) (map_alike f front before) ∙ ap (λ ys. front ++ f x ∷ ys) (map_alike f back behind)

pub map_same : {A B : Type 0} (f g : A → B) (xs : List A) → Each (λ x. f x ≡ g x) xs → map f xs ≡ map g xs
map_same f g [] all = refl
map_same f g (x ∷ xs) all = ap (λ y. y ∷ map f xs) all.0 ∙ ap (λ ys. g x ∷ ys) (map_same f g xs all.1)

pub map_twice : {A B C : Type 0} (f : A → B) (g : B → C) (xs : List A) → map g (map f xs) ≡ map (λ x. g (f x)) xs
map_twice f g [] = refl
map_twice f g (x ∷ xs) = ap (λ ys. g (f x) ∷ ys) (map_twice f g xs)

pub map_remove : {A B : Type 0} (f : A → B) (xs : List A) (k : ℕ) → map f (remove xs k) ≡ remove (map f xs) k
map_remove f [] zero = refl
map_remove f [] (suc k) = refl
map_remove f (x ∷ xs) zero = refl
map_remove f (x ∷ xs) (suc k) = ap (λ ys. f x ∷ ys) (map_remove f xs k)

pub map_get : {A B : Type 0} (f : A → B) (xs : List A) (k : ℕ) (x : A) → slice_get xs k ≡ Some x → slice_get (map f xs) k ≡ Some (f x)
map_get f [] k x h = absurd cc
map_get f (y ∷ xs) zero x h = let e : y ≡ x = cc in ap (λ z. Some (f z)) e
map_get f (y ∷ xs) (suc k) x h = map_get f xs k x h

-- what stands in a place of a list that was mapped
pub get_map : {A B : Type 0} (f : A → B) (xs : List A) (k : ℕ) (y : B) → slice_get (map f xs) k ≡ Some y → (x : A) × (slice_get xs k ≡ Some x) × (f x ≡ y)
get_map f [] k y h = absurd cc
get_map f (x ∷ xs) zero y h = (x, refl, cc)
get_map f (x ∷ xs) (suc k) y h = get_map f xs k y h

pub get_within : {A : Type 0} (xs : List A) (k : ℕ) (x : A) → slice_get xs k ≡ Some x → suc k ≤ length xs
get_within [] k x h = absurd cc
get_within (y ∷ xs) zero x h = omega arith
get_within (y ∷ xs) (suc k) x h = omega (arith, get_within xs k x h)

pub set_apart : {A : Type 0} (front : List A) (x : A) (back : List A) (y : A) → slice_set (front ++ x ∷ back) (length front) y ≡ front ++ y ∷ back
set_apart [] x back y = refl
set_apart (z ∷ front) x back y = ap (λ ys. z ∷ ys) (set_apart front x back y)

pub gather_none : {A B : Type 0} (g : A → Option B) (xs : List A) → Each (λ x. g x ≡ None) xs → filter_map g xs ≡ []
gather_none g [] all = refl
gather_none g (x ∷ xs) all = ap (λ o. cons_option o (filter_map g xs)) all.0 ∙ gather_none g xs all.1

pub gather_apart : {A B : Type 0} (g : A → Option B) (front : List A) (x : A) (back : List A) → Each (λ y. g y ≡ None) front → Each (λ y. g y ≡ None) back
    → filter_map g (front ++ x ∷ back) ≡ cons_option (g x) []
gather_apart g front x back before behind =
    filter_map-append g front (x ∷ back) ∙ ap (λ ys. ys ++ filter_map g (x ∷ back)) (gather_none g front before) ∙ ap (λ ys. cons_option (g x) ys) (gather_none g back behind)

pub gather_same : {A B : Type 0} (f g : A → Option B) (xs : List A) → Each (λ x. f x ≡ g x) xs → filter_map f xs ≡ filter_map g xs
gather_same f g [] all = refl
gather_same f g (x ∷ xs) all = ap (λ o. cons_option o (filter_map f xs)) all.0 ∙ ap (λ ys. cons_option (g x) ys) (gather_same f g xs all.1)

pub gather_each : {A B : Type 0} (P : B → Type 0) (g : A → Option B) (xs : List A) → Each (λ x. Each P (cons_option (g x) [])) xs → Each P (filter_map g xs)
gather_each P g [] all = tt
gather_each {A} {B} P g (x ∷ xs) all = by (g x) all.0 (gather_each P g xs all.1)
  where
    by : (o : Option B) → Each P (cons_option o []) → Each P (filter_map g xs) → Each P (cons_option o (filter_map g xs))
    by None a rest = rest
    by (Some y) a rest = (a.0, rest)

pub filter_same : {A : Type 0} (p q : A → Bool) → ((x : A) → p x ≡ q x) → (xs : List A) → filter p xs ≡ filter q xs
filter_same p q h [] = refl
filter_same p q h (x ∷ xs) = ap (λ b. cond b (x ∷ filter p xs) (filter p xs)) (h x) ∙ ap (λ ys. cond (q x) (x ∷ ys) ys) (filter_same p q h xs)

pub filter_twice : {A : Type 0} (p q : A → Bool) (xs : List A) → filter q (filter p xs) ≡ filter (λ x. p x && q x) xs
filter_twice p q [] = refl
filter_twice {A} p q (x ∷ xs) = by (p x) (q x) refl (filter_twice p q xs)
  where
    by : (a b : Bool) → q x ≡ b → filter q (filter p xs) ≡ filter (λ y. p y && q y) xs
        → filter q (cond a (x ∷ filter p xs) (filter p xs)) ≡ cond (a && b) (x ∷ filter (λ y. p y && q y) xs) (filter (λ y. p y && q y) xs)
    by true true e rest = ap (λ c. cond c (x ∷ filter q (filter p xs)) (filter q (filter p xs))) e ∙ ap (λ ys. x ∷ ys) rest
    by true false e rest = ap (λ c. cond c (x ∷ filter q (filter p xs)) (filter q (filter p xs))) e ∙ rest
    by false b e rest = rest

pub any_none : {A : Type 0} (p : A → Bool) (xs : List A) → Each (λ x. p x ≡ false) xs → list_any p xs ≡ false
any_none p [] all = refl
any_none p (x ∷ xs) all = ap (λ b. b || list_any p xs) all.0 ∙ any_none p xs all.1

pub none_any : {A : Type 0} (p : A → Bool) (xs : List A) → list_any p xs ≡ false → Each (λ x. p x ≡ false) xs
none_any p [] h = tt
none_any {A} p (x ∷ xs) h = by (p x) refl h (none_any p xs)
  where
    by : (b : Bool) → p x ≡ b → (b || list_any p xs) ≡ false → (list_any p xs ≡ false → Each (λ y. p y ≡ false) xs) → (p x ≡ false) × Each (λ y. p y ≡ false) xs
    by true e g rest = absurd cc
    by false e g rest = (e, rest g)

pub any_same : {A : Type 0} (p q : A → Bool) (xs : List A) → Each (λ x. p x ≡ q x) xs → list_any p xs ≡ list_any q xs
any_same p q [] all = refl
any_same p q (x ∷ xs) all = ap (λ b. b || list_any p xs) all.0 ∙ ap (λ b. q x || b) (any_same p q xs all.1)

pub any_map : {A B : Type 0} (p : B → Bool) (f : A → B) (xs : List A) → list_any p (map f xs) ≡ list_any (λ x. p (f x)) xs
any_map p f [] = refl
any_map p f (x ∷ xs) = ap (λ b. p (f x) || b) (any_map p f xs)

-- one passes, and those before it fail
pub any_apart : {A : Type 0} (p : A → Bool) (front : List A) (x : A) (back : List A) → Each (λ y. p y ≡ false) front → Each (λ y. p y ≡ false) back → list_any p (front ++ x ∷ back) ≡ p x
any_apart p [] x back before behind = ap (λ b. p x || b) (any_none p back behind) ∙ by (p x)
  where
    by : (b : Bool) → (b || false) ≡ b
    by true = refl
    by false = refl
any_apart p (y ∷ front) x back before behind = ap (λ b. b || list_any p (front ++ x ∷ back)) before.0 ∙ any_apart p front x back before.1 behind

pub any_or : {A : Type 0} (p q : A → Bool) (xs : List A) → (list_any p xs || list_any q xs) ≡ list_any (λ x. p x || q x) xs
any_or p q [] = refl
any_or {A} p q (x ∷ xs) = by (p x) (q x) (list_any p xs) (list_any q xs) ∙ ap (λ b. (p x || q x) || b) (any_or p q xs)
  where
    by : (a b c d : Bool) → ((a || c) || (b || d)) ≡ ((a || b) || (c || d))
    by true b c d = refl
    by false true true d = refl
    by false true false d = refl
    by false false c d = refl

pub each_all : {A : Type 0} (P : A → Type 0) → ((x : A) → P x) → (xs : List A) → Each P xs
each_all P f [] = tt
each_all P f (x ∷ xs) = (f x, each_all P f xs)

-- ---- the rest of a list from a place on

pub drop_at : {A : Type 0} (xs : List A) (i : ℕ) (x : A) → i < length xs → x ≡ get_or xs i x → drop i xs ≡ x ∷ drop (i + 1) xs
drop_at [] i x small at = absurd (omega arith)
drop_at {A} (y ∷ xs) zero x small at = ap (λ (z : A). z ∷ xs) (sym at)
drop_at {A} (y ∷ xs) (suc i) x small at =
    let e : suc i + 1 ≡ suc (i + 1) = omega arith in
    drop_at xs i x (omega arith) at ∙ ap (λ (n : ℕ). x ∷ drop n (y ∷ xs)) (sym e)

pub drop_end : {A : Type 0} (xs : List A) (i : ℕ) → length xs ≤ i → drop i xs ≡ []
drop_end [] zero h = refl
drop_end [] (suc i) h = refl
drop_end (x ∷ xs) zero h = absurd (omega (arith, h))
drop_end (x ∷ xs) (suc i) h = drop_end xs i (omega (arith, h))

-- what holds of each, from a place on
pub each_next : {A : Type 0} (P : A → Type 0) (xs : List A) (i : ℕ) (x : A) → i < length xs → x ≡ get_or xs i x → (Each P xs ↔ Each P (drop i xs)) → P x → Each P xs ↔ Each P (drop (i + 1) xs)
each_next P xs i x small at on here =
    let first = drop_at xs i x small at in
    ((λ all. (subst (λ ys. Each P ys) first (on.0 all)).1), (λ rest. on.1 (subst (λ ys. Each P ys) (sym first) (here, rest))))

pub each_stop : {A : Type 0} (P : A → Type 0) (xs : List A) (i : ℕ) (x : A) → i < length xs → x ≡ get_or xs i x → (Each P xs ↔ Each P (drop i xs)) → (P x → ⊥) → Each P xs → ⊥
each_stop P xs i x small at on never all = never (subst (λ ys. Each P ys) (drop_at xs i x small at) (on.0 all)).0

pub each_end : {A : Type 0} (P : A → Type 0) (xs : List A) (i : ℕ) → length xs ≤ i → (Each P xs ↔ Each P (drop i xs)) → Each P xs
each_end P xs i all on = on.1 (subst (λ ys. Each P ys) (sym (drop_end xs i all)) tt)

pub drop_first : {A : Type 0} (xs : List A) → drop 1 xs ≡ remove xs 0
drop_first [] = refl
drop_first (x ∷ xs) = refl

pub any_default : {A : Type 0} (xs : List A) (i : ℕ) (d e : A) → i < length xs → get_or xs i d ≡ get_or xs i e
any_default [] i d e small = absurd (omega arith)
any_default (x ∷ xs) zero d e small = refl
any_default (x ∷ xs) (suc i) d e small = any_default xs i d e (omega arith)
