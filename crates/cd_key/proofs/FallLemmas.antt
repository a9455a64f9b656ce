-- Keys of clauses in which a literal gets smaller.
use Rattle.std.proofs.Common.{◌≡◌, ◌≢◌, ℕ, ◌+◌, ◌<◌, Bool, true, false, cond, if◌then◌else◌, List, ◌∷◌, ◌++◌, sym, ap, ◌∙◌, refl, arith}
use Rattle.std.specs.Cmp.{IsTotalOrder}
use Rattle.std.specs.Cmp.Lexicographic.{slice_cmp}
use Rattle.std.specs.Ordering.{nat_cmp, ordering_then, is_lt, is_eq, bool_cmp}
use Rattle.std.specs.declared.cmp.Ordering.{Ordering}
use Rattle.std.specs.declared.cmp.Ordering.TheVariants.{Less, Equal, Greater}
use Rattle.std.proofs.lemmas.Cmp.{tied_itself, tied_back, alike_right}
use Rattle.std.proofs.lemmas.List.Sums.{sum_by-append}
use Rattle.cd_kbo.proofs.Orderings.{is_less, less_not_greater}
use Rattle.cd_kbo.proofs.GroundLemmas.{ground_total}
use Rattle.cd_key.specs.Forms.{literal_compare}
use Rattle.cd_key.specs.Multisets.{sorted_down, count_of}
use Rattle.cd_key.specs.Laws.{LiteralsFall, KeysFall}
use Rattle.cd_key.proofs.FormLemmas.{forms_total}
use Rattle.cd_key.proofs.MultisetLemmas.{count-cons, back_less, back_greater, count_decides, sorted_is_down, count_sorted}

less_equal : Less ≢ Equal
less_equal e = cc

-- the same sign, and a smaller lesser side
signs_same : (b : Bool) → bool_cmp b b ≡ Equal
signs_same true = refl
signs_same false = refl

finish : (b : Bool) (first last : Ordering) → first ≡ Equal → last ≡ Less → ordering_then first (ordering_then (bool_cmp b b) last) ≡ Less
finish b first last p q = λ i. ordering_then (p i) (ordering_then (signs_same b i) (q i))

at_once : (first rest : Ordering) → first ≡ Less → ordering_then first rest ≡ Less
at_once first rest p = ap (λ (r : Ordering). ordering_then r rest) p

module _ {X : Type 0} (R : X → X → Ordering) (T : IsTotalOrder R) where
  -- how two equations compare whose left sides are s' and s, by what their sides compare as
  abbrev Left : Bool → X → X → X → Ordering → Ordering → Ordering
  Left b s' s t r' r = ordering_then (R (if is_lt r' then t else s') (if is_lt r then t else s))
      (ordering_then (bool_cmp b b) (R (if is_lt r' then s' else t) (if is_lt r then s else t)))

  left_falls : (b : Bool) (s' s t : X) (r' r : Ordering) → R s' t ≡ r' → R s t ≡ r → R s' s ≡ Less → Left b s' s t r' r ≡ Less
  left_falls b s' s t Less Less p q e = finish b (R t t) (R s' s) (tied_itself T t) e
  left_falls b s' s t Less Equal p q e = finish b (R t s) (R s' t) (tied_back T s t q) p
  left_falls b s' s t Less Greater p q e = at_once (R t s) _ (back_greater R T s t q)
  left_falls b s' s t Equal Less p q e = absurd (less_equal (sym (T.trans s' s t e q) ∙ p))
  left_falls b s' s t Equal Equal p q e = absurd (less_equal (sym (sym (alike_right T s t s' q) ∙ e) ∙ p))
  left_falls b s' s t Equal Greater p q e = at_once (R s' s) _ e
  left_falls b s' s t Greater Less p q e = absurd (less_not_greater (sym (T.trans s' s t e q) ∙ p))
  left_falls b s' s t Greater Equal p q e = absurd (less_not_greater (sym (sym (alike_right T s t s' q) ∙ e) ∙ p))
  left_falls b s' s t Greater Greater p q e = at_once (R s' s) _ e

  -- the same for their right sides
  abbrev Right : Bool → X → X → X → Ordering → Ordering → Ordering
  Right b s' s t r' r = ordering_then (R (if is_lt r' then s' else t) (if is_lt r then s else t))
      (ordering_then (bool_cmp b b) (R (if is_lt r' then t else s') (if is_lt r then t else s)))

  above : (s' s t : X) (r : Ordering) → R t s ≡ r → r ≢ Less → R s' s ≡ Less → R t s' ≡ Greater
  above s' s t Less q ne e = absurd (ne refl)
  above s' s t Equal q ne e = T.congr t s s' q ∙ back_less R T s' s e
  above s' s t Greater q ne e = back_less R T s' t (T.trans s' s t e (back_greater R T t s q))

  greater_only : (r : Ordering) (o : Ordering) → o ≡ r → o ≡ Greater → r ≡ Greater
  greater_only r o p q = sym p ∙ q

  equal_less : Equal ≢ Less
  equal_less e = cc

  greater_less : Greater ≢ Less
  greater_less e = cc

  equal_greater : Equal ≢ Greater
  equal_greater e = cc

  right_falls : (b : Bool) (s' s t : X) (r' r : Ordering) → R t s' ≡ r' → R t s ≡ r → R s' s ≡ Less → Right b s' s t r' r ≡ Less
  right_falls b s' s t Less Less p q e = at_once (R s' s) _ e
  right_falls b s' s t Equal Less p q e = at_once (R t s) _ q
  right_falls b s' s t Greater Less p q e = at_once (R t s) _ q
  right_falls b s' s t Greater Equal p q e = finish b (R t t) (R s' s) (tied_itself T t) e
  right_falls b s' s t Greater Greater p q e = finish b (R t t) (R s' s) (tied_itself T t) e
  right_falls b s' s t Less Equal p q e = absurd (less_not_greater (greater_only Less (R t s') p (above s' s t Equal q equal_less e)))
  right_falls b s' s t Less Greater p q e = absurd (less_not_greater (greater_only Less (R t s') p (above s' s t Greater q greater_less e)))
  right_falls b s' s t Equal Equal p q e = absurd (equal_greater (greater_only Equal (R t s') p (above s' s t Equal q equal_less e)))
  right_falls b s' s t Equal Greater p q e = absurd (equal_greater (greater_only Equal (R t s') p (above s' s t Greater q greater_less e)))

  -- lists of items, sorted downwards, in which one gets smaller
  count_inside : (z x : X) (front back : List X) →
      count_of R z (front ++ x ∷ back) ≡ count_of R z front + (cond (is_eq (R z x)) 1 0 + count_of R z back)
  count_inside z x front back = omega (arith, sum_by-append (λ w. cond (is_eq (R z w)) 1 0) front (x ∷ back), count-cons R z x back)

  greater_apart : (r : Ordering) → r ≡ Greater → ◌≡◌ {A = ℕ} (cond (is_eq r) 1 0) 0
  greater_apart r e = ap {B = ℕ} (λ q. cond (is_eq q) 1 0) e

  pub item_falls : (front back : List X) (x y : X) → R y x ≡ Less →
      slice_cmp R (sorted_down R (front ++ y ∷ back)) (sorted_down R (front ++ x ∷ back)) ≡ Less
  item_falls front back x y e =
      let one_more : count_of R x (front ++ y ∷ back) + 1 ≡ count_of R x (front ++ x ∷ back) = omega (
        arith,
        count_inside x y front back,
        count_inside x x front back,
        greater_apart (R x y) (back_less R T y x e),
        ap {B = ℕ} (λ q. cond (is_eq q) 1 0) (tied_itself T x),
      ) in
      let lt : count_of R x (front ++ y ∷ back) < count_of R x (front ++ x ∷ back) = omega arith in
      count_decides R T x (sorted_down R (front ++ y ∷ back)) (sorted_down R (front ++ x ∷ back))
      (sorted_is_down R T (front ++ y ∷ back)) (sorted_is_down R T (front ++ x ∷ back))
      (λ z up. omega (
        arith,
        count_sorted R T z (front ++ y ∷ back),
        count_sorted R T z (front ++ x ∷ back),
        count_inside z y front back,
        count_inside z x front back,
        greater_apart (R z x) (back_less R T x z up),
        greater_apart (R z y) (back_less R T y z (T.trans y x z e up)),
      ))
      (λ same. absurd (omega (arith, same, one_more, count_sorted R T x (front ++ y ∷ back), count_sorted R T x (front ++ x ∷ back))))
      ∙ (λ i. nat_cmp (count_sorted R T x (front ++ y ∷ back) i) (count_sorted R T x (front ++ x ∷ back) i))
      ∙ is_less (count_of R x (front ++ y ∷ back)) (count_of R x (front ++ x ∷ back)) lt

pub literals_fall : LiteralsFall
literals_fall o = (
  λ b d p q args others e. at_once _ _ e,
  λ b s' s t e. left_falls _ (ground_total o) b s' s t _ _ refl refl e,
  λ b s' s t e. right_falls _ (ground_total o) b s' s t _ _ refl refl e,
)

pub keys_fall : KeysFall
keys_fall o front back l m n n' e = at_once _ _ (item_falls (literal_compare o) (forms_total o) front back l m e)
