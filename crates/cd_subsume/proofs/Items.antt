-- Items of lists by their places, and sums over them.
use Rattle.std.proofs.Common.{◌≡◌, ℕ, zero, suc, ◌+◌, ◌<◌, ◌≤◌, ◌⊎◌, inl, inr, List, [], ◌∷◌, ◌++◌, length, length-append, sum_by, ap, sym, ◌∙◌, refl, subst, arith, Some, slice_get, get_or}
use Rattle.std.proofs.lemmas.Option.{same_Some, slice_get-get_or}
use Rattle.std.proofs.lemmas.List.Sums.{sum_by-cons}

-- the item in a place of a list with one item more
abbrev pub IsLast : {A : Type 0} → List A → A → ℕ → A → Type 0
IsLast xs x i y = (slice_get xs i ≡ Some y) ⊎ ((i ≡ length xs) × (x ≡ y))

pub last_cases : {A : Type 0} (xs : List A) (x : A) (i : ℕ) (y : A) → slice_get (xs ++ x ∷ []) i ≡ Some y → IsLast xs x i y
last_cases [] x zero y e = inr (refl, cc)
last_cases [] x (suc i) y e = absurd (cc)
last_cases (z ∷ xs) x zero y e = inl e
last_cases (z ∷ xs) x (suc i) y e = elim (last_cases xs x i y e) [
  | inl old ↦ inl old
  | inr new ↦ inr (omega (arith, new.0), new.1)
]

pub get_within : {A : Type 0} (xs : List A) (i : ℕ) (y : A) → slice_get xs i ≡ Some y → i < length xs
get_within [] i y e = absurd (cc)
get_within (x ∷ xs) zero y e = omega arith
get_within (x ∷ xs) (suc i) y e = omega (arith, get_within xs i y e)

pub get_some : {A : Type 0} (xs : List A) (i : ℕ) → i < length xs → (x : A) × (slice_get xs i ≡ Some x)
get_some [] i lt = absurd (omega (arith, lt))
get_some (x ∷ xs) zero lt = (x, refl)
get_some (x ∷ xs) (suc i) lt = get_some xs i (omega (arith, lt))

pub get_front : {A : Type 0} (xs ys : List A) (i : ℕ) (y : A) → slice_get xs i ≡ Some y → slice_get (xs ++ ys) i ≡ Some y
get_front [] ys i y e = absurd (cc)
get_front (x ∷ xs) ys zero y e = e
get_front (x ∷ xs) ys (suc i) y e = get_front xs ys i y e

pub get_middle : {A : Type 0} (xs : List A) (x : A) (ys : List A) → slice_get (xs ++ x ∷ ys) (length xs) ≡ Some x
get_middle [] x ys = refl
get_middle (z ∷ xs) x ys = get_middle xs x ys

pub same_item : {A : Type 0} (xs : List A) (i j : ℕ) (x y : A) → i ≡ j → slice_get xs i ≡ Some x → slice_get xs j ≡ Some y → x ≡ y
same_item xs i j x y is a b = same_Some x y (sym a ∙ ap (slice_get xs) is ∙ b)

-- an item that is read
pub read_at : {A : Type 0} (xs : List A) (i j : ℕ) (x : A) → i ≡ j → i < length xs → x ≡ get_or xs i x → slice_get xs j ≡ Some x
read_at xs i j x same lt at = ap (slice_get xs) (sym same) ∙ slice_get-get_or xs i x lt ∙ ap Some (sym at)

pub last_split : {A : Type 0} (xs ys : List A) (x y : A) → xs ++ x ∷ [] ≡ ys ++ y ∷ [] → (xs ≡ ys) × (x ≡ y)
last_split [] [] x y e = (refl, cc)
last_split [] (z ∷ []) x y e = absurd (cc)
last_split [] (z ∷ w ∷ ys) x y e = absurd (cc)
last_split (z ∷ []) [] x y e = absurd (cc)
last_split (z ∷ w ∷ xs) [] x y e = absurd (cc)
last_split (z ∷ xs) (w ∷ ys) x y e =
    let rest : xs ++ x ∷ [] ≡ ys ++ y ∷ [] = cc in let first : z ≡ w = cc in
    let both = last_split xs ys x y rest in (ap (λ us. z ∷ us) both.0 ∙ ap (λ u. u ∷ ys) first, both.1)

pub none_last : {A : Type 0} (xs : List A) (x : A) → [] ≡ xs ++ x ∷ [] → ⊥
none_last [] x e = cc
none_last (y ∷ xs) x e = cc

pub empty_is : {A : Type 0} (xs : List A) → length xs ≡ 0 → xs ≡ []
empty_is [] e = refl
empty_is (x ∷ xs) e = absurd (omega (arith, e))

-- a list of what there is for each number below another one
pub record Listed {A : Type 0} (P : ℕ → A → Type 0) (n : ℕ) : Type 0 where
  pub items : List A
  pub as_many : length items ≡ n
  pub each : (k : ℕ) (x : A) → slice_get items k ≡ Some x → P k x

pub listed : {A : Type 0} (P : ℕ → A → Type 0) (n : ℕ) → ((k : ℕ) → k < n → (x : A) × P k x) → Listed P n
listed P zero there = record { items = []; as_many = refl; each = λ k x at. absurd (cc) }
listed {A} P (suc n) there =
    let front = listed P n (λ k lt. there k (omega (arith, lt))) in
    let last = there n (omega arith) in record {
      items = front.items ++ last.0 ∷ [];
      as_many = omega (arith, length-append front.items (last.0 ∷ []), front.as_many);
      each = λ k x at. more front last k x (last_cases front.items last.0 k x at);
    }
  where
    subst_both : (Q : ℕ → A → Type 0) (m k : ℕ) (y x : A) → m ≡ k → y ≡ x → Q m y → Q k x
    subst_both Q m k y x e f q = subst (λ (i : ℕ). Q i x) e (subst (λ (z : A). Q m z) f q)

    more : (front : Listed P n) (last : (x : A) × P n x) (k : ℕ) (x : A) → IsLast front.items last.0 k x → P k x
    more front last k x (inl old) = front.each k x old
    more front last k x (inr new) =
        let at : n ≡ k = omega (arith, new.0, front.as_many) in
        let Q : ℕ → A → Type 0 = P in subst_both Q n k last.0 x at new.1 last.1

-- sums of what items have
pub has_at : {A : Type 0} (f : A → ℕ) (xs : List A) (i : ℕ) (x : A) → slice_get xs i ≡ Some x → f x ≤ sum_by f xs
has_at f [] i x at = absurd (cc)
has_at f (y ∷ xs) zero x at = omega (arith, sum_by-cons f y xs, ap f (same_Some y x at))
has_at f (y ∷ xs) (suc i) x at = omega (arith, sum_by-cons f y xs, has_at f xs i x at)

pub has_both : {A : Type 0} (f : A → ℕ) (xs : List A) (i j : ℕ) (x y : A) → i < j → slice_get xs i ≡ Some x → slice_get xs j ≡ Some y →
    f x + f y ≤ sum_by f xs
has_both f [] i j x y lt a b = absurd (cc)
has_both f (z ∷ xs) i zero x y lt a b = absurd (omega (arith, lt))
has_both f (z ∷ xs) zero (suc j) x y lt a b = omega (arith, sum_by-cons f z xs, ap f (same_Some z x a), has_at f xs j y b)
has_both f (z ∷ xs) (suc i) (suc j) x y lt a b = omega (arith, sum_by-cons f z xs, has_both f xs i j x y (omega (arith, lt)) a b)

some_here : {A : Type 0} (f : A → ℕ) (y : A) (ys : List A) (n : ℕ) → f y ≡ n → 1 ≤ sum_by f (y ∷ ys) →
    (1 ≤ sum_by f ys → (i : ℕ) × (z : A) × (slice_get ys i ≡ Some z) × (1 ≤ f z)) → (i : ℕ) × (z : A) × (slice_get (y ∷ ys) i ≡ Some z) × (1 ≤ f z)
some_here f y ys zero is e rest = let r = rest (omega (arith, e, is, sum_by-cons f y ys)) in (suc r.0, r.1, r.2, r.3)
some_here f y ys (suc n) is e rest = (0, y, refl, omega (arith, is))

pub some_has : {A : Type 0} (f : A → ℕ) (xs : List A) → 1 ≤ sum_by f xs → (i : ℕ) × (x : A) × (slice_get xs i ≡ Some x) × (1 ≤ f x)
some_has f [] e = absurd (omega (arith, e))
some_has f (x ∷ xs) e = some_here f x xs (f x) refl e (some_has f xs)
