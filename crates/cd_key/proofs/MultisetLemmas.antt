-- Lists sorted downwards compared by counting.
use Rattle.std.proofs.Common.{◌≡◌, ◌≢◌, ℕ, ◌+◌, ◌<◌, ◌≤◌, Bool, true, false, not, nat_eq, cond, if◌then◌else◌, List, [], ◌∷◌, Some, None, sym, ap, ◌∙◌, refl, arith, ⊎_elim}
use Rattle.std.specs.Prelude.{count_by}
use Rattle.std.specs.List.{AllByRecursion}
use Rattle.std.specs.Cmp.{IsTotalOrder}
use Rattle.std.specs.Cmp.Lexicographic.{slice_cmp}
use Rattle.std.specs.Ordering.{nat_cmp, ordering_then, ordering_reverse, is_lt, is_eq}
use Rattle.std.specs.declared.cmp.Ordering.{Ordering}
use Rattle.std.specs.declared.cmp.Ordering.TheVariants.{Less, Equal, Greater}
use Rattle.std.proofs.lemmas.Bool.{cases_lt, false_from_ne_true}
use Rattle.std.proofs.lemmas.Bool.Decides.{nat_tests}
use Rattle.std.proofs.lemmas.Cmp.{tied_itself, tied_back, alike_right}
use Rattle.std.proofs.lemmas.List.Sums.{sum_by-cons}
use Rattle.cd_kbo.proofs.Orderings.{is_less, is_equal, is_greater, less_not_greater}
use Rattle.cd_key.specs.Multisets.{put_down, sorted_down, count_of, counts_differ, IsTop}

-- the same number more on either side
pub shifted : (a m n : ℕ) → nat_cmp (a + m) (a + n) ≡ nat_cmp m n
shifted a m n = ⊎_elim {C = nat_cmp (a + m) (a + n) ≡ nat_cmp m n}
    (λ (lt : m < n). is_less (a + m) (a + n) (omega arith) ∙ sym (is_less m n lt))
    (λ (ge : n ≤ m). ⊎_elim {C = nat_cmp (a + m) (a + n) ≡ nat_cmp m n}
    (λ (gt : n < m). is_greater (a + m) (a + n) (omega arith) ∙ sym (is_greater m n gt))
    (λ (le : m ≤ n). is_equal (a + m) (a + n) (omega arith) ∙ sym (is_equal m n (omega arith)))
    (cases_lt n m))
    (cases_lt m n)

pub is_lt_Less : (r : Ordering) → is_lt r ≡ true → r ≡ Less
is_lt_Less Less e = refl
is_lt_Less Equal e = cc
is_lt_Less Greater e = cc

pub not_lt_Less : (r : Ordering) → is_lt r ≡ false → r ≢ Less
not_lt_Less Less e h = cc
not_lt_Less Equal e h = cc
not_lt_Less Greater e h = cc

is_eq_Equal : (r : Ordering) → is_eq r ≡ true → r ≡ Equal
is_eq_Equal Less e = cc
is_eq_Equal Equal e = refl
is_eq_Equal Greater e = cc

not_Less : Equal ≢ Less
not_Less e = cc

-- a count differs
pub uneven : (m n : ℕ) → not (nat_eq m n) ≡ true → m ≢ n
uneven m n e h = at (nat_eq m n) refl
  where
    at : (b : Bool) → nat_eq m n ≡ b → ⊥
    at b k = grind (arith, nat_tests, e, h, k)

pub even : (m n : ℕ) → not (nat_eq m n) ≡ false → m ≡ n
even m n e = at (nat_eq m n) refl
  where
    at : (b : Bool) → nat_eq m n ≡ b → m ≡ n
    at b k = grind (arith, nat_tests, e, k)

module _ {X : Type 0} (R : X → X → Ordering) where
  -- each item is no less than those behind it
  abbrev pub IsDown : List X → Type 0
  IsDown [] = Unit {0}
  IsDown (x ∷ xs) = AllByRecursion (λ y. R x y ≢ Less) xs × IsDown xs

  pub count-cons : (z y : X) (ys : List X) → count_of R z (y ∷ ys) ≡ cond (is_eq (R z y)) 1 0 + count_of R z ys
  count-cons z y ys = sum_by-cons (λ x. cond (is_eq (R z x)) 1 0) y ys

  module _ (T : IsTotalOrder R) where
    pub back_less : (a b : X) → R a b ≡ Less → R b a ≡ Greater
    back_less a b e = T.antisymm b a ∙ ap ordering_reverse e

    pub back_greater : (a b : X) → R a b ≡ Greater → R b a ≡ Less
    back_greater a b e = T.antisymm b a ∙ ap ordering_reverse e

    pub never_less : (a : X) → R a a ≢ Less
    never_less a e = not_Less (sym (tied_itself T a) ∙ e)

    -- going down twice is going down
    pub down_twice : (a b c : X) → R a b ≢ Less → R b c ≢ Less → R a c ≢ Less
    down_twice a b c h k e = at (R a b) refl
      where
        at : (r : Ordering) → R a b ≡ r → ⊥
        at Less p = h p
        at Equal p = k (sym (T.congr a b c p) ∙ e)
        at Greater p = k (T.trans b a c (back_greater a b p) e)

    -- less than what is no less
    pub less_up : (p q x : X) → R p q ≡ Less → R x q ≢ Less → R p x ≡ Less
    less_up p q x e h = at (R x q) refl
      where
        at : (r : Ordering) → R x q ≡ r → R p x ≡ Less
        at Less k = absurd (h k)
        at Equal k = sym (alike_right T q x p (tied_back T x q k)) ∙ e
        at Greater k = T.trans p q x e (back_greater x q k)

    -- what is no more than p is not the same as what is above it
    apart : (p y z : X) → R p y ≢ Less → R p z ≡ Less → is_eq (R z y) ≡ false
    apart p y z h e = false_from_ne_true (is_eq (R z y)) (λ k. h (back_greater y p
        (sym (T.congr z y p (is_eq_Equal (R z y) k)) ∙ back_less p z e)))

    none_above : (p z : X) (ys : List X) → AllByRecursion (λ y. R p y ≢ Less) ys → R p z ≡ Less → count_of R z ys ≡ 0
    none_above p z [] h e = refl
    none_above p z (y ∷ ys) h e = omega (
      arith,
      count-cons z y ys,
      ap {B = ℕ} (λ b. cond b 1 0) (apart p y z h.0 e),
      none_above p z ys h.1 e,
    )

    one_itself : (q : X) (qs : List X) → 1 ≤ count_of R q (q ∷ qs)
    one_itself q qs = omega (arith, count-cons q q qs, ap {B = ℕ} (λ r. cond (is_eq r) 1 0) (tied_itself T q))

    -- what is above all items is not there
    none_there : (p z : X) (ps : List X) → AllByRecursion (λ y. R p y ≢ Less) ps → R p z ≡ Less → count_of R z (p ∷ ps) ≡ 0
    none_there p z ps h e = none_above p z (p ∷ ps) (never_less p, h) e

    -- how two lists that are sorted downwards compare
    abbrev Same : X → List X → List X → Type 0
    Same x ps qs = (z : X) → R x z ≡ Less → count_of R z ps ≡ count_of R z qs

    first_less : (x p q : X) (ps qs : List X) → R p q ≡ Less → AllByRecursion (λ y. R p y ≢ Less) ps → Same x (p ∷ ps) (q ∷ qs) →
        count_of R x (p ∷ ps) ≢ count_of R x (q ∷ qs) → count_of R x (p ∷ ps) < count_of R x (q ∷ qs)
    first_less x p q ps qs e down same ne =
        let not_below : R x q ≢ Less = λ l. absurd (omega (arith, same q l, none_there p q ps down e, one_itself q qs)) in
        let none : count_of R x (p ∷ ps) ≡ 0 = none_there p x ps down (less_up p q x e not_below) in
        omega arith

    step : (x p q : X) (ps qs : List X) (r : Ordering) → R p q ≡ r → AllByRecursion (λ y. R p y ≢ Less) ps →
        AllByRecursion (λ y. R q y ≢ Less) qs → Same x (p ∷ ps) (q ∷ qs) → count_of R x (p ∷ ps) ≢ count_of R x (q ∷ qs) →
        (Same x ps qs → count_of R x ps ≢ count_of R x qs → slice_cmp R ps qs ≡ nat_cmp (count_of R x ps) (count_of R x qs)) →
        ordering_then r (slice_cmp R ps qs) ≡ nat_cmp (count_of R x (p ∷ ps)) (count_of R x (q ∷ qs))
    step x p q ps qs Less e down down' same ne rest = sym (is_less _ _ (first_less x p q ps qs e down same ne))
    step x p q ps qs Greater e down down' same ne rest =
        sym (is_greater _ _ (first_less x q p qs ps (back_greater p q e) down' (λ z l. sym (same z l)) (λ h. ne (sym h))))
    step x p q ps qs Equal e down down' same ne rest =
        let alike = λ (z : X). ap {B = ℕ} (λ r. cond (is_eq r) 1 0) (alike_right T p q z e) in
        let tails : Same x ps qs = λ z l. omega (arith, same z l, count-cons z p ps, count-cons z q qs, alike z) in
        let differ : count_of R x ps ≢ count_of R x qs = λ h. ne (omega (arith, h, count-cons x p ps, count-cons x q qs, alike x)) in
        rest tails differ
        ∙ sym (shifted (cond (is_eq (R x p)) 1 0) (count_of R x ps) (count_of R x qs))
        ∙ (λ i. nat_cmp (sym (count-cons x p ps) i) ((ap (λ n. n + count_of R x qs) (alike x) ∙ sym (count-cons x q qs)) i))

    pub count_decides : (x : X) (ps qs : List X) → IsDown ps → IsDown qs → Same x ps qs → count_of R x ps ≢ count_of R x qs →
        slice_cmp R ps qs ≡ nat_cmp (count_of R x ps) (count_of R x qs)
    count_decides x [] [] down down' same ne = absurd (ne refl)
    count_decides x [] (q ∷ qs) down down' same ne = let some : 0 < count_of R x (q ∷ qs) = omega arith in sym (is_less 0 (count_of R x (q ∷ qs)) some)
    count_decides x (p ∷ ps) [] down down' same ne = let some : 0 < count_of R x (p ∷ ps) = omega arith in sym (is_greater (count_of R x (p ∷ ps)) 0 some)
    count_decides x (p ∷ ps) (q ∷ qs) down down' same ne =
        step x p q ps qs (R p q) refl down.0 down'.0 same ne (count_decides x ps qs down.1 down'.1)

    same_step : (p q : X) (ps qs : List X) (r : Ordering) → R p q ≡ r → AllByRecursion (λ y. R p y ≢ Less) ps →
        AllByRecursion (λ y. R q y ≢ Less) qs → ((z : X) → count_of R z (p ∷ ps) ≡ count_of R z (q ∷ qs)) →
        (((z : X) → count_of R z ps ≡ count_of R z qs) → slice_cmp R ps qs ≡ Equal) → ordering_then r (slice_cmp R ps qs) ≡ Equal
    same_step p q ps qs Less e down down' same rest =
        absurd (omega (arith, same q, none_there p q ps down e, one_itself q qs))
    same_step p q ps qs Greater e down down' same rest =
        absurd (omega (arith, same p, none_there q p qs down' (back_greater p q e), one_itself p ps))
    same_step p q ps qs Equal e down down' same rest =
        rest (λ z. omega (arith, same z, count-cons z p ps, count-cons z q qs, ap {B = ℕ} (λ r. cond (is_eq r) 1 0) (alike_right T p q z e)))

    pub same_counts : (ps qs : List X) → IsDown ps → IsDown qs → ((z : X) → count_of R z ps ≡ count_of R z qs) → slice_cmp R ps qs ≡ Equal
    same_counts [] [] down down' same = refl
    same_counts [] (q ∷ qs) down down' same = absurd (omega (arith, same q, one_itself q qs))
    same_counts (p ∷ ps) [] down down' same = absurd (omega (arith, same p, one_itself p ps))
    same_counts (p ∷ ps) (q ∷ qs) down down' same =
        same_step p q ps qs (R p q) refl down.0 down'.0 same (same_counts ps qs down.1 down'.1)

    -- Sorting.
    put_all : (m x : X) (ys : List X) → R m x ≢ Less → AllByRecursion (λ y. R m y ≢ Less) ys → AllByRecursion (λ y. R m y ≢ Less) (put_down R x ys)
    put_all m x [] h all = (h, tt)
    put_all m x (y ∷ ys) h all =
        elim (is_lt (R x y)) as (λ b. AllByRecursion (λ z. R m z ≢ Less) (if b then y ∷ put_down R x ys else x ∷ y ∷ ys)) [
          | true ↦ (all.0, put_all m x ys h all.1)
          | false ↦ (h, all)
        ]

    all_down : (x y : X) (ys : List X) → R x y ≢ Less → AllByRecursion (λ z. R y z ≢ Less) ys → AllByRecursion (λ z. R x z ≢ Less) ys
    all_down x y [] h all = tt
    all_down x y (z ∷ zs) h all = (down_twice x y z h all.0, all_down x y zs h all.1)

    put_at : (x y : X) (ys : List X) (b : Bool) → is_lt (R x y) ≡ b → IsDown (y ∷ ys) → IsDown (put_down R x ys) →
        IsDown (if b then y ∷ put_down R x ys else x ∷ y ∷ ys)
    put_at x y ys true e down rest = (
      put_all y x ys (λ l. less_not_greater (sym l ∙ back_less x y (is_lt_Less (R x y) e))) down.0,
      rest,
    )
    put_at x y ys false e down rest =
        let no_less : R x y ≢ Less = not_lt_Less (R x y) e in ((no_less, all_down x y ys no_less down.0), down)

    put_is_down : (x : X) (ys : List X) → IsDown ys → IsDown (put_down R x ys)
    put_is_down x [] down = (tt, tt)
    put_is_down x (y ∷ ys) down = put_at x y ys (is_lt (R x y)) refl down (put_is_down x ys down.1)

    pub sorted_is_down : (xs : List X) → IsDown (sorted_down R xs)
    sorted_is_down [] = tt
    sorted_is_down (x ∷ xs) = put_is_down x (sorted_down R xs) (sorted_is_down xs)

    count_put : (z x : X) (ys : List X) → count_of R z (put_down R x ys) ≡ cond (is_eq (R z x)) 1 0 + count_of R z ys
    count_put z x [] = count-cons z x []
    count_put z x (y ∷ ys) =
        elim (is_lt (R x y)) as (λ b. count_of R z (if b then y ∷ put_down R x ys else x ∷ y ∷ ys) ≡ cond (is_eq (R z x)) 1 0 + count_of R z (y ∷ ys)) [
          | true ↦ omega (arith, count-cons z y (put_down R x ys), count_put z x ys, count-cons z y ys)
          | false ↦ count-cons z x (y ∷ ys)
        ]

    pub count_sorted : (z : X) (xs : List X) → count_of R z (sorted_down R xs) ≡ count_of R z xs
    count_sorted z [] = refl
    count_sorted z (x ∷ xs) = omega (arith, count_put z x (sorted_down R xs), count_sorted z xs, count-cons z x xs)

    -- Deciding by a top item.
    count_tied : (z y : X) (xs : List X) → R z y ≡ Equal → count_of R z xs ≡ count_of R y xs
    count_tied z y xs e = λ i. count_by (λ w. is_eq (T.congr z y w e i)) xs

    differ_tied : (c d : List X) (z y : X) → R z y ≡ Equal → counts_differ R c d z ≡ true → counts_differ R c d y ≡ true
    differ_tied c d z y e h = (λ i. not (nat_eq (sym (count_tied z y c e) i) (sym (count_tied z y d e) i))) ∙ h

    -- no item above a top one is uneven
    not_above : (c d : List X) (x z : X) (ys : List X) → AllByRecursion (λ y. counts_differ R c d y ≡ true → R x y ≢ Less) ys →
        counts_differ R c d z ≡ true → R x z ≡ Less → count_of R z ys ≡ 0
    not_above c d x z [] all h e = refl
    not_above c d x z (y ∷ ys) all h e = omega (
      arith,
      count-cons z y ys,
      ap {B = ℕ} (λ b. cond b 1 0) (false_from_ne_true (is_eq (R z y)) (λ k. all.0 (differ_tied c d z y (is_eq_Equal (R z y) k) h) (sym (alike_right T z y x (is_eq_Equal (R z y) k)) ∙ e))),
      not_above c d x z ys all.1 h e,
    )

    even_above : (c d : List X) (x z : X) (b : Bool) → counts_differ R c d z ≡ b →
        AllByRecursion (λ y. counts_differ R c d y ≡ true → R x y ≢ Less) c → AllByRecursion (λ y. counts_differ R c d y ≡ true → R x y ≢ Less) d →
        R x z ≡ Less → count_of R z c ≡ count_of R z d
    even_above c d x z true h of_c of_d e = omega (arith, not_above c d x z c of_c h e, not_above c d x z d of_d h e)
    even_above c d x z false h of_c of_d e = even (count_of R z c) (count_of R z d) h

    pub top_decides : (c d : List X) (x : X) → counts_differ R c d x ≡ true →
        AllByRecursion (λ y. counts_differ R c d y ≡ true → R x y ≢ Less) c → AllByRecursion (λ y. counts_differ R c d y ≡ true → R x y ≢ Less) d →
        slice_cmp R (sorted_down R c) (sorted_down R d) ≡ nat_cmp (count_of R x c) (count_of R x d)
    top_decides c d x h of_c of_d =
        count_decides x (sorted_down R c) (sorted_down R d) (sorted_is_down c) (sorted_is_down d)
        (λ z e. count_sorted z c ∙ even_above c d x z (counts_differ R c d z) refl of_c of_d e ∙ sym (count_sorted z d))
        (λ k. uneven (count_of R x c) (count_of R x d) h (sym (count_sorted x c) ∙ k ∙ count_sorted x d))
        ∙ (λ i. nat_cmp (count_sorted x c i) (count_sorted x d i))

    -- no item of a list is uneven
    even_there : (c d : List X) (z : X) (ys : List X) → AllByRecursion (λ y. counts_differ R c d y ≡ false) ys →
        counts_differ R c d z ≡ true → count_of R z ys ≡ 0
    even_there c d z [] all h = refl
    even_there c d z (y ∷ ys) all h = omega (
      arith,
      count-cons z y ys,
      ap {B = ℕ} (λ b. cond b 1 0) (false_from_ne_true (is_eq (R z y)) (λ k. apart_tests (sym all.0 ∙ differ_tied c d z y (is_eq_Equal (R z y) k) h))),
      even_there c d z ys all.1 h,
    )
      where
        apart_tests : false ≡ true → ⊥
        apart_tests e = cc

    even_all : (c d : List X) (z : X) (b : Bool) → counts_differ R c d z ≡ b → AllByRecursion (λ y. counts_differ R c d y ≡ false) c →
        AllByRecursion (λ y. counts_differ R c d y ≡ false) d → count_of R z c ≡ count_of R z d
    even_all c d z true h of_c of_d = omega (arith, even_there c d z c of_c h, even_there c d z d of_d h)
    even_all c d z false h of_c of_d = even (count_of R z c) (count_of R z d) h

    pub even_decides : (c d : List X) → AllByRecursion (λ y. counts_differ R c d y ≡ false) c → AllByRecursion (λ y. counts_differ R c d y ≡ false) d →
        slice_cmp R (sorted_down R c) (sorted_down R d) ≡ Equal
    even_decides c d of_c of_d = same_counts (sorted_down R c) (sorted_down R d) (sorted_is_down c) (sorted_is_down d)
        (λ z. count_sorted z c ∙ even_all c d z (counts_differ R c d z) refl of_c of_d ∙ sym (count_sorted z d))

    -- a top item of two lists together
    none_or_less : (p : X → Bool) (x : X) (ys : List X) → AllByRecursion (λ y. p y ≡ false) ys → AllByRecursion (λ y. p y ≡ true → R x y ≢ Less) ys
    none_or_less p x [] all = tt
    none_or_less p x (y ∷ ys) all = (λ h. absurd (differ (sym all.0 ∙ h)), none_or_less p x ys all.1)
      where
        differ : false ≡ true → ⊥
        differ e = cc

    under_higher : (p : X → Bool) (x y : X) (zs : List X) → R y x ≢ Less → AllByRecursion (λ z. p z ≡ true → R x z ≢ Less) zs →
        AllByRecursion (λ z. p z ≡ true → R y z ≢ Less) zs
    under_higher p x y [] h all = tt
    under_higher p x y (z ∷ zs) h all = (λ k. down_twice y x z h (all.0 k), under_higher p x y zs h all.1)

    pub only_left : (c d : List X) (x : X) → IsTop R (counts_differ R c d) c (Some x) → IsTop R (counts_differ R c d) d None →
        slice_cmp R (sorted_down R c) (sorted_down R d) ≡ nat_cmp (count_of R x c) (count_of R x d)
    only_left c d x top none = top_decides c d x top.0 top.1 (none_or_less (counts_differ R c d) x d none)

    pub only_right : (c d : List X) (y : X) → IsTop R (counts_differ R c d) c None → IsTop R (counts_differ R c d) d (Some y) →
        slice_cmp R (sorted_down R c) (sorted_down R d) ≡ nat_cmp (count_of R y c) (count_of R y d)
    only_right c d y none top = top_decides c d y top.0 (none_or_less (counts_differ R c d) y c none) top.1

    pub right_higher : (c d : List X) (x y : X) → IsTop R (counts_differ R c d) c (Some x) → IsTop R (counts_differ R c d) d (Some y) →
        R x y ≡ Less → slice_cmp R (sorted_down R c) (sorted_down R d) ≡ nat_cmp (count_of R y c) (count_of R y d)
    right_higher c d x y left right e =
        let above : R y x ≢ Less = λ l. less_not_greater (sym l ∙ back_less x y e) in
        top_decides c d y right.0 (under_higher (counts_differ R c d) x y c above left.1) right.1

    pub left_higher : (c d : List X) (x y : X) → IsTop R (counts_differ R c d) c (Some x) → IsTop R (counts_differ R c d) d (Some y) →
        R x y ≢ Less → slice_cmp R (sorted_down R c) (sorted_down R d) ≡ nat_cmp (count_of R x c) (count_of R x d)
    left_higher c d x y left right h = top_decides c d x left.0 left.1 (under_higher (counts_differ R c d) y x d h right.1)
