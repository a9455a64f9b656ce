-- The ground order in one pass.
use Rattle.std.proofs.Common.{◌≡◌, ℕ, ◌+◌, ◌<◌, ◌≤◌, ◌-◌, ◌^◌, min, true, false, List, [], ◌∷◌, ◌++◌, length, get_or, take, length-take, sum_by, sym, ap, ◌∙◌, refl, arith}
use Rattle.std.specs.Cmp.Lexicographic.{slice_cmp}
use Rattle.std.specs.Ordering.{nat_cmp, ordering_then, is_ne}
use Rattle.std.specs.declared.cmp.Ordering.{Ordering}
use Rattle.std.specs.declared.cmp.Ordering.TheVariants.{Less, Equal, Greater}
use Rattle.std.proofs.lemmas.List.{take_all, take_more}
use Rattle.std.proofs.lemmas.List.Sums.{sum_by_more}
use Rattle.cd_term.specs.declared.Term.{Term}
use Rattle.cd_term.specs.declared.Term.TheVariants.{App}
use Rattle.cd_term.specs.Terms.{size_of}
use Rattle.cd_kbo.specs.declared.order.Order.{Order}
use Rattle.cd_kbo.specs.Orders.{weight_at, rank_at}
use Rattle.cd_kbo.specs.Kbo.{weight_of, ground_compare}
use Rattle.cd_kbo.proofs.KboEquations.{weight_of-App}
use Rattle.cd_kbo.proofs.Orderings.{then_assoc, then_ne, not_ne, both_equal, nat_cmp-Equal, then_equal}
use Rattle.cd_kbo.proofs.GroundLemmas.{ground-App-App}
use Rattle.cd_kbo.proofs.Arguments.{weight_known}

-- what the pass knows of the arguments so far
pub record SoFar (o : Order) (xs ys : List Term) (answer : Ordering) (left right : ℕ) : Type 0 where
  pub answers : answer ≡ slice_cmp (ground_compare o) xs ys
  pub lefts : left ≡ min (sum_by (weight_of o) xs) (2 ^ 64 - 1)
  pub rights : right ≡ min (sum_by (weight_of o) ys) (2 ^ 64 - 1)

pub split_cmp : (R : Term → Term → Ordering) (p q xs ys : List Term) → length p ≡ length q →
    slice_cmp R (p ++ xs) (q ++ ys) ≡ ordering_then (slice_cmp R p q) (slice_cmp R xs ys)
split_cmp R [] [] xs ys e = refl
split_cmp R [] (b ∷ q) xs ys e = absurd (omega arith)
split_cmp R (a ∷ p) [] xs ys e = absurd (omega arith)
split_cmp R (a ∷ p) (b ∷ q) xs ys e =
    let many : length p ≡ length q = omega arith in
    ap (ordering_then (R a b)) (split_cmp R p q xs ys many) ∙ sym (then_assoc (R a b) (slice_cmp R p q) (slice_cmp R xs ys))

-- one pair more
grown : (o : Order) (xs ys : List Term) (i : ℕ) (x y : Term) (a : Ordering) → i < length xs → i < length ys → x ≡ get_or xs i x → y ≡ get_or ys i y →
    a ≡ slice_cmp (ground_compare o) (take i xs) (take i ys) →
    slice_cmp (ground_compare o) (take (i + 1) xs) (take (i + 1) ys) ≡ ordering_then a (ground_compare o x y)
grown o xs ys i x y a lt inside at_x at_y so_far =
    let grown_x : take (i + 1) xs ≡ take i xs ++ x ∷ [] = take_more xs i x lt ∙ ap (λ z. take i xs ++ z ∷ []) (sym at_x) in
    let grown_y : take (i + 1) ys ≡ take i ys ++ y ∷ [] = take_more ys i y inside ∙ ap (λ z. take i ys ++ z ∷ []) (sym at_y) in
    let many : length (take i xs) ≡ length (take i ys) = omega (arith, length-take i xs, length-take i ys) in
    (λ j. slice_cmp (ground_compare o) (grown_x j) (grown_y j)) ∙
    split_cmp (ground_compare o) (take i xs) (take i ys) (x ∷ []) (y ∷ []) many ∙
    (λ j. ordering_then (sym so_far j) (then_equal (ground_compare o x y) j))

sum_grown : (o : Order) (xs : List Term) (i : ℕ) (x : Term) (a b : ℕ) → i < length xs → x ≡ get_or xs i x → a ≡ min (sum_by (weight_of o) (take i xs)) (2 ^ 64 - 1) →
    b ≡ min (weight_of o x) (2 ^ 64 - 1) → min (a + b) (2 ^ 64 - 1) ≡ min (sum_by (weight_of o) (take (i + 1) xs)) (2 ^ 64 - 1)
sum_grown o xs i x a b lt at so_far is = omega (arith, sum_by_more (weight_of o) xs i x lt, ap (weight_of o) at)

pub weighed_more : (o : Order) (xs ys : List Term) (i : ℕ) (x y : Term) (a : Ordering) (l r b c m n : ℕ) → i < length xs → i < length ys →
    x ≡ get_or xs i x → y ≡ get_or ys i y → SoFar o (take i xs) (take i ys) a l r → is_ne a ≡ true →
    b ≡ min (weight_of o x) (2 ^ 64 - 1) → c ≡ min (weight_of o y) (2 ^ 64 - 1) → m ≡ min (l + b) (2 ^ 64 - 1) → n ≡ min (r + c) (2 ^ 64 - 1) →
    SoFar o (take (i + 1) xs) (take (i + 1) ys) a m n
weighed_more o xs ys i x y a l r b c m n lt inside at_x at_y s ne p q u v = record {
  answers = sym (grown o xs ys i x y a lt inside at_x at_y s.answers ∙ then_ne a (ground_compare o x y) ne);
  lefts = u ∙ sum_grown o xs i x l b lt at_x s.lefts p;
  rights = v ∙ sum_grown o ys i y r c inside at_y s.rights q;
}

pub walked_more : (o : Order) (xs ys : List Term) (i : ℕ) (x y : Term) (a d : Ordering) (l r b c m n : ℕ) → i < length xs → i < length ys →
    x ≡ get_or xs i x → y ≡ get_or ys i y → SoFar o (take i xs) (take i ys) a l r → is_ne a ≡ false → d ≡ ground_compare o x y →
    b ≡ min (weight_of o x) (2 ^ 64 - 1) → c ≡ min (weight_of o y) (2 ^ 64 - 1) → m ≡ min (l + b) (2 ^ 64 - 1) → n ≡ min (r + c) (2 ^ 64 - 1) →
    SoFar o (take (i + 1) xs) (take (i + 1) ys) d m n
walked_more o xs ys i x y a d l r b c m n lt inside at_x at_y s ne e p q u v = record {
  answers = sym (grown o xs ys i x y a lt inside at_x at_y s.answers ∙
      ap (λ (z : Ordering). ordering_then z (ground_compare o x y)) (not_ne a ne) ∙ sym e);
  lefts = u ∙ sum_grown o xs i x l b lt at_x s.lefts p;
  rights = v ∙ sum_grown o ys i y r c inside at_y s.rights q;
}

-- two applications, and what their heads answer
pub record Shape (o : Order) (s t : Term) (f g : ℕ) (ss ts : List Term) (r : Ordering) : Type 0 where
  pub left : s ≡ App f ss
  pub right : t ≡ App g ts
  pub answers : r ≡ slice_cmp nat_cmp (rank_at o f ∷ length ss ∷ f ∷ []) (rank_at o g ∷ length ts ∷ g ∷ [])

grouped : (a b c z : Ordering) → ordering_then a (ordering_then b (ordering_then c z)) ≡
    ordering_then (ordering_then a (ordering_then b (ordering_then c Equal))) z
grouped Less b c z = refl
grouped Greater b c z = refl
grouped Equal Less c z = refl
grouped Equal Greater c z = refl
grouped Equal Equal Less z = refl
grouped Equal Equal Greater z = refl
grouped Equal Equal Equal z = refl

compared_all : (o : Order) (s t : Term) (f g : ℕ) (ss ts : List Term) (r : Ordering) → Shape o s t f g ss ts r →
    ground_compare o s t ≡ ordering_then (nat_cmp (weight_of o s) (weight_of o t)) (ordering_then r (slice_cmp (ground_compare o) ss ts))
compared_all o s t f g ss ts r h =
    (λ i. ground_compare o (h.left i) (h.right i)) ∙ ground-App-App o f g ss ts ∙
    (λ i. ordering_then (nat_cmp (weight_of o (sym h.left i)) (weight_of o (sym h.right i)))
    (grouped (nat_cmp (rank_at o f) (rank_at o g)) (nat_cmp (length ss) (length ts)) (nat_cmp f g) (slice_cmp (ground_compare o) ss ts) i)) ∙
    ap (λ (c : Ordering). ordering_then (nat_cmp (weight_of o s) (weight_of o t)) (ordering_then c (slice_cmp (ground_compare o) ss ts))) (sym h.answers)

shape_many : (o : Order) (s t : Term) (f g : ℕ) (ss ts : List Term) (r : Ordering) → Shape o s t f g ss ts r → is_ne r ≡ false → length ss ≡ length ts
shape_many o s t f g ss ts r h ne =
    let a = both_equal (nat_cmp (rank_at o f) (rank_at o g)) (ordering_then (nat_cmp (length ss) (length ts)) (ordering_then (nat_cmp f g) Equal)) (sym h.answers ∙ not_ne r ne) in
    nat_cmp-Equal (length ss) (length ts) (both_equal (nat_cmp (length ss) (length ts)) (ordering_then (nat_cmp f g) Equal) a.1).0

pub inside : (o : Order) (s t : Term) (f g : ℕ) (ss ts xs ys : List Term) (r : Ordering) (i : ℕ) →
    Shape o s t f g ss ts r → is_ne r ≡ false → xs ≡ ss → ys ≡ ts → i < length xs → i < length ys
inside o s t f g ss ts xs ys r i h ne p q lt =
    omega (arith, shape_many o s t f g ss ts r h ne, ap (λ (zs : List Term). length zs) p, ap (λ (zs : List Term). length zs) q)

pub past_right : (o : Order) (s t : Term) (f g : ℕ) (ss ts xs ys : List Term) (r : Ordering) (i : ℕ) →
    Shape o s t f g ss ts r → is_ne r ≡ false → xs ≡ ss → ys ≡ ts → length xs ≤ i → length ys ≤ i
past_right o s t f g ss ts xs ys r i h ne p q past =
    omega (arith, shape_many o s t f g ss ts r h ne, ap (λ (zs : List Term). length zs) p, ap (λ (zs : List Term). length zs) q)

pub heads_answer : (o : Order) (s t : Term) (f g : ℕ) (ss ts : List Term) (r q u : Ordering) (l m : ℕ) → Shape o s t f g ss ts r → is_ne r ≡ true →
    size_of s < 2 ^ 32 → size_of t < 2 ^ 32 → l ≡ min (weight_of o s) (2 ^ 64 - 1) → m ≡ min (weight_of o t) (2 ^ 64 - 1) →
    q ≡ nat_cmp l m → u ≡ ordering_then q r → u ≡ ground_compare o s t
heads_answer o s t f g ss ts r q u l m h ne small_s small_t p k e is =
    is ∙ ap (λ (c : Ordering). ordering_then c r) (e ∙ (λ i. nat_cmp (weight_known o s l small_s p i) (weight_known o t m small_t k i))) ∙
    sym (compared_all o s t f g ss ts r h ∙ ap (ordering_then (nat_cmp (weight_of o s) (weight_of o t))) (then_ne r (slice_cmp (ground_compare o) ss ts) ne))

pub total_is : (o : Order) (s : Term) (f : ℕ) (ss xs : List Term) (i l k m : ℕ) → s ≡ App f ss → xs ≡ ss → length xs ≤ i →
    l ≡ min (sum_by (weight_of o) (take i xs)) (2 ^ 64 - 1) → k ≡ weight_at o f → m ≡ min (l + k) (2 ^ 64 - 1) → m ≡ min (weight_of o s) (2 ^ 64 - 1)
total_is o s f ss xs i l k m is same past so_far own total =
    omega (arith, ap (weight_of o) is, weight_of-App o f ss, ap (sum_by (weight_of o)) (take_all i xs past ∙ same))

pub arguments_answer : (o : Order) (s t : Term) (f g : ℕ) (ss ts xs ys : List Term) (r q u a : Ordering) (i l m : ℕ) → Shape o s t f g ss ts r → is_ne r ≡ false →
    size_of s < 2 ^ 32 → size_of t < 2 ^ 32 → xs ≡ ss → ys ≡ ts → length xs ≤ i → a ≡ slice_cmp (ground_compare o) (take i xs) (take i ys) →
    l ≡ min (weight_of o s) (2 ^ 64 - 1) → m ≡ min (weight_of o t) (2 ^ 64 - 1) → q ≡ nat_cmp l m → u ≡ ordering_then q a → u ≡ ground_compare o s t
arguments_answer o s t f g ss ts xs ys r q u a i l m h ne small_s small_t same_x same_y past so_far p k e is =
    let past_y : length ys ≤ i = omega (arith, shape_many o s t f g ss ts r h ne, ap (λ (zs : List Term). length zs) same_x, ap (λ (zs : List Term). length zs) same_y) in
    is ∙ (λ j. ordering_then ((e ∙ (λ i. nat_cmp (weight_known o s l small_s p i) (weight_known o t m small_t k i))) j) a) ∙
    ap (ordering_then (nat_cmp (weight_of o s) (weight_of o t)))
    (so_far ∙ (λ j. slice_cmp (ground_compare o) ((take_all i xs past ∙ same_x) j) ((take_all i ys past_y ∙ same_y) j)) ∙
    ap (λ (c : Ordering). ordering_then c (slice_cmp (ground_compare o) ss ts)) (sym (not_ne r ne))) ∙
    sym (compared_all o s t f g ss ts r h)
