-- The ground forms of a subsumer, sorted downwards, aren't above those of what it subsumes.
use Rattle.std.proofs.Common.{◌≡◌, ◌≢◌, ℕ, ◌+◌, ◌≤◌, Bool, true, false, cond, if◌then◌else◌, List, [], ◌∷◌, length, map, sum_by, ap, subst, refl, sym, ◌∙◌, arith}
use Rattle.std.specs.List.{AllByRecursion}
use Rattle.std.specs.Cmp.{IsTotalOrder}
use Rattle.std.specs.Cmp.Lexicographic.{slice_cmp}
use Rattle.std.specs.Ordering.{nat_cmp, ordering_then, is_lt, bool_cmp}
use Rattle.std.specs.declared.cmp.Ordering.{Ordering}
use Rattle.std.specs.declared.cmp.Ordering.TheVariants.{Less, Equal, Greater}
use Rattle.std.proofs.lemmas.Cmp.{tied_itself, alike_right}
use Rattle.std.proofs.lemmas.List.{length-map}
use Rattle.std.proofs.lemmas.List.Sums.{sum_by-cons}
use Rattle.cd_term.specs.declared.Term.{Term}
use Rattle.cd_term.specs.declared.Term.TheVariants.{Var, App}
use Rattle.cd_term.specs.Terms.{substituted}
use Rattle.cd_term.proofs.TermInduction.{Each, ind}
use Rattle.cd_term.proofs.Equations.{substituted-App}
use Rattle.cd_clause.specs.declared.Atom.{Atom}
use Rattle.cd_clause.specs.declared.Atom.TheVariants.{Truth, Pred, Equal as Equation}
use Rattle.cd_clause.specs.declared.Literal.{Literal}
use Rattle.cd_clause.specs.declared.Clause.{Clause}
use Rattle.cd_clause.specs.Clauses.{atom_changed}
use Rattle.cd_kbo.specs.declared.order.Order.{Order}
use Rattle.cd_kbo.specs.Orders.{rank_at}
use Rattle.cd_kbo.specs.Kbo.{weight_of, ground_compare}
use Rattle.cd_kbo.proofs.KboEquations.{weight_of-Var, weight_of-App}
use Rattle.cd_kbo.proofs.Small.{weight_positive}
use Rattle.cd_kbo.proofs.Orderings.{nat_cmp-Less, is_equal}
use Rattle.cd_kbo.proofs.LawsOfOrders.{ground_laws}
use Rattle.cd_key.specs.Forms.{literal_compare}
use Rattle.cd_key.specs.Multisets.{put_down, sorted_down}
use Rattle.cd_key.specs.Keys.{forms_compare}
use Rattle.cd_key.proofs.FormLemmas.{forms_total}
use Rattle.cd_key.proofs.MultisetLemmas.{IsDown, back_less, back_greater, never_less, down_twice, is_lt_Less, not_lt_Less, sorted_is_down}
use Rattle.cd_subsume.specs.Subsumption.{IsTurned, Subsumes}
use Rattle.cd_subsume.specs.Laws.{NeverFalls}
use Rattle.cd_subsume.proofs.Counts.{never_more}

then_not_less : (a b : Ordering) → a ≢ Less → b ≢ Less → ordering_then a b ≢ Less
then_not_less Less b h k = absurd (h refl)
then_not_less Equal b h k = k
then_not_less Greater b h k = λ e. cc

equal_not_less : (a : Ordering) → a ≡ Equal → a ≢ Less
equal_not_less a e h = let both : Equal ≡ Less = sym e ∙ h in absurd (cc)

module _ {X : Type 0} (R : X → X → Ordering) (T : IsTotalOrder R) where
  -- y is no more than q, which is below p
  pub under : (p q y : X) → R q y ≢ Less → R q p ≡ Less → R y p ≡ Less
  under p q y h e = at (R y p) refl
    where
      at : (r : Ordering) → R y p ≡ r → R y p ≡ Less
      at Less k = k
      at Equal k = absurd (h (alike_right T y p q k ∙ e))
      at Greater k = absurd (h (T.trans q p y e (back_greater R T y p k)))

  -- how many items aren't below one
  abbrev pub up : X → List X → ℕ
  up z xs = sum_by (λ y. cond (is_lt (R y z)) 0 1) xs

  up-cons : (z y : X) (ys : List X) → up z (y ∷ ys) ≡ cond (is_lt (R y z)) 0 1 + up z ys
  up-cons z y ys = sum_by-cons (λ x. cond (is_lt (R x z)) 0 1) y ys

  up_put : (z x : X) (ys : List X) → up z (put_down R x ys) ≡ cond (is_lt (R x z)) 0 1 + up z ys
  up_put z x [] = up-cons z x []
  up_put z x (y ∷ ys) =
      elim (is_lt (R x y)) as (λ b. up z (if b then y ∷ put_down R x ys else x ∷ y ∷ ys) ≡ cond (is_lt (R x z)) 0 1 + up z (y ∷ ys)) [
        | true ↦ omega (arith, up-cons z y (put_down R x ys), up_put z x ys, up-cons z y ys)
        | false ↦ up-cons z x (y ∷ ys)
      ]

  pub up_sorted : (z : X) (xs : List X) → up z (sorted_down R xs) ≡ up z xs
  up_sorted z [] = refl
  up_sorted z (x ∷ xs) = omega (arith, up_put z x (sorted_down R xs), up_sorted z xs, up-cons z x xs)

  none_up : (p q : X) (qs : List X) → R q p ≡ Less → AllByRecursion (λ y. R q y ≢ Less) qs → up p qs ≡ 0
  none_up p q [] e all = refl
  none_up p q (y ∷ ys) e all = omega (
    arith,
    up-cons p y ys,
    ap {B = ℕ} (λ r. cond (is_lt r) 0 1) (under p q y all.0 e),
    none_up p q ys e all.1,
  )

  itself_up : (p : X) (ps : List X) → 1 ≤ up p (p ∷ ps)
  itself_up p ps = omega (arith, up-cons p p ps, ap {B = ℕ} (λ r. cond (is_lt r) 0 1) (tied_itself T p))

  down_step : (p q : X) (ps qs : List X) (r : Ordering) → R p q ≡ r → AllByRecursion (λ y. R q y ≢ Less) qs →
      ((z : X) → up z (p ∷ ps) ≤ up z (q ∷ qs)) → (((z : X) → up z ps ≤ up z qs) → slice_cmp R ps qs ≢ Greater) →
      ordering_then r (slice_cmp R ps qs) ≢ Greater
  down_step p q ps qs Less e down less rest = λ h. cc
  down_step p q ps qs Equal e down less rest =
      rest (λ z. omega (arith, less z, up-cons z p ps, up-cons z q qs, ap {B = ℕ} (λ r. cond (is_lt r) 0 1) (T.congr p q z e)))
  down_step p q ps qs Greater e down less rest = λ h. absurd (omega (
    arith,
    less p,
    itself_up p ps,
    up-cons p q qs,
    ap {B = ℕ} (λ r. cond (is_lt r) 0 1) (back_greater R T p q e),
    none_up p q qs (back_greater R T p q e) down,
  ))

  -- a list that is sorted downwards and has no more items above any one isn't above the other
  pub down_compare : (ps qs : List X) → IsDown R ps → IsDown R qs → ((z : X) → up z ps ≤ up z qs) → slice_cmp R ps qs ≢ Greater
  down_compare [] [] down down' less = λ h. cc
  down_compare [] (q ∷ qs) down down' less = λ h. cc
  down_compare (p ∷ ps) [] down down' less = absurd (omega (arith, less p, itself_up p ps))
  down_compare (p ∷ ps) (q ∷ qs) down down' less =
      down_step p q ps qs (R p q) refl down'.0 less (down_compare ps qs down.1 down'.1)

  pub sorted_compare : (xs ys : List X) → ((z : X) → up z xs ≤ up z ys) → slice_cmp R (sorted_down R xs) (sorted_down R ys) ≢ Greater
  sorted_compare xs ys less = down_compare (sorted_down R xs) (sorted_down R ys) (sorted_is_down R T xs) (sorted_is_down R T ys)
      (λ z. omega (arith, less z, up_sorted z xs, up_sorted z ys))

  -- the greater and the lesser of two
  abbrev pub mx : X → X → X
  mx s t = if is_lt (R s t) then t else s

  abbrev pub mn : X → X → X
  mn s t = if is_lt (R s t) then s else t

  turn : (s t : X) → R s t ≢ Less → R t s ≢ Greater
  turn s t h e = h (back_greater R T t s e)

  less_up : (s t : X) → R s t ≡ Less → R t s ≢ Less
  less_up s t e h = let both : Greater ≡ Less = sym (back_less R T s t e) ∙ h in absurd (cc)

  max_left : (s t : X) (b : Bool) → is_lt (R s t) ≡ b → R (if b then t else s) s ≢ Less
  max_left s t true e = less_up s t (is_lt_Less (R s t) e)
  max_left s t false e = never_less R T s

  max_right : (s t : X) (b : Bool) → is_lt (R s t) ≡ b → R (if b then t else s) t ≢ Less
  max_right s t true e = never_less R T t
  max_right s t false e = not_lt_Less (R s t) e

  max_least : (s t m : X) (b : Bool) → R m s ≢ Less → R m t ≢ Less → R m (if b then t else s) ≢ Less
  max_least s t m true h k = k
  max_least s t m false h k = h

  min_left : (s t : X) (b : Bool) → is_lt (R s t) ≡ b → R s (if b then s else t) ≢ Less
  min_left s t true e = never_less R T s
  min_left s t false e = not_lt_Less (R s t) e

  min_right : (s t : X) (b : Bool) → is_lt (R s t) ≡ b → R t (if b then s else t) ≢ Less
  min_right s t true e = less_up s t (is_lt_Less (R s t) e)
  min_right s t false e = never_less R T t

  min_most : (s t m : X) (b : Bool) → R s m ≢ Less → R t m ≢ Less → R (if b then s else t) m ≢ Less
  min_most s t m true h k = h
  min_most s t m false h k = k

  -- two that are no less than two others, one for one
  pub max_up : (s t c d : X) → R c s ≢ Less → R d t ≢ Less → R (mx c d) (mx s t) ≢ Less
  max_up s t c d h k = max_least s t (mx c d) (is_lt (R s t))
      (down_twice R T (mx c d) c s (max_left c d (is_lt (R c d)) refl) h)
      (down_twice R T (mx c d) d t (max_right c d (is_lt (R c d)) refl) k)

  pub max_turned : (s t c d : X) → R c s ≢ Less → R d t ≢ Less → R (mx d c) (mx s t) ≢ Less
  max_turned s t c d h k = max_least s t (mx d c) (is_lt (R s t))
      (down_twice R T (mx d c) c s (max_right d c (is_lt (R d c)) refl) h)
      (down_twice R T (mx d c) d t (max_left d c (is_lt (R d c)) refl) k)

  pub min_up : (s t c d : X) → R c s ≢ Less → R d t ≢ Less → R (mn c d) (mn s t) ≢ Less
  min_up s t c d h k = min_most c d (mn s t) (is_lt (R c d))
      (down_twice R T c s (mn s t) h (min_left s t (is_lt (R s t)) refl))
      (down_twice R T d t (mn s t) k (min_right s t (is_lt (R s t)) refl))

  pub min_turned : (s t c d : X) → R c s ≢ Less → R d t ≢ Less → R (mn d c) (mn s t) ≢ Less
  min_turned s t c d h k = min_most d c (mn s t) (is_lt (R d c))
      (down_twice R T d t (mn s t) k (min_right s t (is_lt (R s t)) refl))
      (down_twice R T c s (mn s t) h (min_left s t (is_lt (R s t)) refl))

-- instances of terms in the ground order
weights_grow : (o : Order) (g : ℕ → Term) (ts : List Term) → Each (λ t. weight_of o t ≤ weight_of o (substituted g t)) ts →
    sum_by (weight_of o) ts ≤ sum_by (weight_of o) (map (substituted g) ts)
weights_grow o g [] e = omega arith
weights_grow o g (t ∷ ts) e = omega (
  arith,
  e.0,
  weights_grow o g ts e.1,
  sum_by-cons (weight_of o) t ts,
  sum_by-cons (weight_of o) (substituted g t) (map (substituted g) ts),
)

weight_grows : (o : Order) (g : ℕ → Term) (t : Term) → weight_of o t ≤ weight_of o (substituted g t)
weight_grows o g = ind (λ t. weight_of o t ≤ weight_of o (substituted g t))
    (λ n. omega (arith, weight_of-Var o n, weight_positive o (substituted g (Var n))))
    (λ f ts e. omega (
      arith,
      weight_of-App o f ts,
      ap (weight_of o) (substituted-App g f ts),
      weight_of-App o f (map (substituted g) ts),
      weights_grow o g ts e,
    ))

list_up : (o : Order) (g : ℕ → Term) (ts : List Term) → Each (λ t. ground_compare o (substituted g t) t ≢ Less) ts →
    slice_cmp (ground_compare o) (map (substituted g) ts) ts ≢ Less
list_up o g [] e = λ h. cc
list_up o g (t ∷ ts) e = then_not_less (ground_compare o (substituted g t) t) (slice_cmp (ground_compare o) (map (substituted g) ts) ts) e.0 (list_up o g ts e.1)

nat_not_less : (m n : ℕ) → n ≤ m → nat_cmp m n ≢ Less
nat_not_less m n le e = omega (arith, le, nat_cmp-Less m n e)

application_up : (o : Order) (g : ℕ → Term) (f : ℕ) (ts : List Term) → Each (λ t. ground_compare o (substituted g t) t ≢ Less) ts →
    ground_compare o (App f (map (substituted g) ts)) (App f ts) ≢ Less
application_up o g f ts e =
    let us = map (substituted g) ts in
    let heavy : weight_of o (App f ts) ≤ weight_of o (App f us)
    = subst (λ u. weight_of o (App f ts) ≤ weight_of o u) (substituted-App g f ts) (weight_grows o g (App f ts)) in
    subst (λ r. r ≢ Less) (sym ((ground_laws o).symbols f f us ts))
    (then_not_less _ _ (nat_not_less (weight_of o (App f us)) (weight_of o (App f ts)) heavy)
    (then_not_less _ _ (equal_not_less _ (is_equal (rank_at o f) (rank_at o f) refl))
    (then_not_less _ _ (equal_not_less _ (is_equal (length us) (length ts) (length-map ts (substituted g))))
    (then_not_less _ _ (equal_not_less _ (is_equal f f refl)) (list_up o g ts e)))))

variable_up : (o : Order) (n : ℕ) (u : Term) → ground_compare o u (Var n) ≢ Less
variable_up o n u e = (ground_laws o).least n u (back_less (ground_compare o) (ground_laws o).total u (Var n) e)

-- an instance isn't below the term
pub instance_up : (o : Order) (g : ℕ → Term) (t : Term) → ground_compare o (substituted g t) t ≢ Less
instance_up o g = ind (λ t. ground_compare o (substituted g t) t ≢ Less)
    (λ n. variable_up o n (substituted g (Var n)))
    (λ f ts e. subst (λ u. ground_compare o u (App f ts) ≢ Less) (sym (substituted-App g f ts)) (application_up o g f ts e))

each_up : (o : Order) (g : ℕ → Term) (ts : List Term) → Each (λ t. ground_compare o (substituted g t) t ≢ Less) ts
each_up o g [] = tt
each_up o g (t ∷ ts) = (instance_up o g t, each_up o g ts)

signs_same : (b : Bool) → bool_cmp b b ≡ Equal
signs_same true = refl
signs_same false = refl

form_parts : (a b : Ordering) (c : Bool) → a ≢ Less → b ≢ Less → ordering_then a (ordering_then (bool_cmp c c) b) ≢ Less
form_parts a b c h k = then_not_less a (ordering_then (bool_cmp c c) b) h (then_not_less (bool_cmp c c) b (equal_not_less (bool_cmp c c) (signs_same c)) k)

straight_up : (o : Order) (g : ℕ → Term) (c : Bool) (a : Atom) →
    literal_compare o (record { positive = c; atom = atom_changed (substituted g) a }) (record { positive = c; atom = a }) ≢ Less
straight_up o g c Truth = form_parts Equal Equal c (λ e. cc) (λ e. cc)
straight_up o g c (Pred p args) =
    form_parts (ground_compare o (App p (map (substituted g) args)) (App p args)) Equal c (application_up o g p args (each_up o g args)) (λ e. cc)
straight_up o g c (Equation s t) = form_parts _ _ c
    (max_up (ground_compare o) (ground_laws o).total s t (substituted g s) (substituted g t) (instance_up o g s) (instance_up o g t))
    (min_up (ground_compare o) (ground_laws o).total s t (substituted g s) (substituted g t) (instance_up o g s) (instance_up o g t))

turned_up : (o : Order) (g : ℕ → Term) (c : Bool) (s t : Term) →
    literal_compare o (record { positive = c; atom = Equation (substituted g t) (substituted g s) }) (record { positive = c; atom = Equation s t }) ≢ Less
turned_up o g c s t = form_parts _ _ c
    (max_turned (ground_compare o) (ground_laws o).total s t (substituted g s) (substituted g t) (instance_up o g s) (instance_up o g t))
    (min_turned (ground_compare o) (ground_laws o).total s t (substituted g s) (substituted g t) (instance_up o g s) (instance_up o g t))

atom_up : (o : Order) (g : ℕ → Term) (c e : Bool) (a b : Atom) → IsTurned e (atom_changed (substituted g) a) b →
    literal_compare o (record { positive = c; atom = b }) (record { positive = c; atom = a }) ≢ Less
atom_up o g c false a b is = subst (λ x. literal_compare o (record { positive = c; atom = x }) (record { positive = c; atom = a }) ≢ Less) is (straight_up o g c a)
atom_up o g c true Truth b is = absurd is
atom_up o g c true (Pred p args) b is = absurd is
atom_up o g c true (Equation s t) b is =
    subst (λ x. literal_compare o (record { positive = c; atom = x }) (record { positive = c; atom = Equation s t }) ≢ Less) is (turned_up o g c s t)

-- a picked literal isn't below the literal that picks it
pub literal_up : (o : Order) (g : ℕ → Term) (l m : Literal) (e : Bool) → l.positive ≡ m.positive → IsTurned e (atom_changed (substituted g) l.atom) m.atom →
    literal_compare o m l ≢ Less
literal_up o g l m e sign is =
    subst (λ c. literal_compare o (record { positive = c; atom = m.atom }) l ≢ Less) sign (atom_up o g l.positive e l.atom m.atom is)

zero_or_one : (r s : Ordering) → (s ≡ Less → r ≡ Less) → ◌≤◌ (cond (is_lt r) 0 1) (cond (is_lt s) 0 1)
zero_or_one Less s h = omega arith
zero_or_one Equal Less h = absurd (let both : Equal ≡ Less = h refl in (cc))
zero_or_one Equal Equal h = omega arith
zero_or_one Equal Greater h = omega arith
zero_or_one Greater Less h = absurd (let both : Greater ≡ Less = h refl in (cc))
zero_or_one Greater Equal h = omega arith
zero_or_one Greater Greater h = omega arith

pub never_falls : (o : Order) (z : Literal) → NeverFalls (λ l. cond (is_lt (literal_compare o l z)) 0 1)
never_falls o z = record {
  at_each = λ g l m e sign is. zero_or_one (literal_compare o l z) (literal_compare o m z)
      (under (literal_compare o) (forms_total o) z m l (literal_up o g l m e sign is));
}

-- the first part of a subsumer's key isn't greater
pub subsumer_forms : (o : Order) (d c : Clause) → Subsumes d c → forms_compare o d c ≢ Greater
subsumer_forms o d c by =
    sorted_compare (literal_compare o) (forms_total o) d.literals c.literals
    (λ z. never_more (λ l. cond (is_lt (literal_compare o l z)) 0 1) (never_falls o z) by.0 d.literals c.literals by.1.0 by.1.1)
