-- Lists of which one item gives way to another: sizes and depths.
use Rattle.std.proofs.Common.{◌≡◌, ℕ, ◌+◌, ◌-◌, ◌<◌, ◌≤◌, max, List, [], ◌∷◌, ◌++◌, length, map, take, drop, sum_by, Option, None, Some, slice_set, option_map, ap, ap₂, ◌∙◌, sym, refl, arith, add-one, append_assoc}
use Rattle.std.proofs.lemmas.List.{set_split, map-append, take-map, drop-map, length-map}
use Rattle.std.proofs.lemmas.List.Sums.{sum_by-append, sum_by-cons}
use Rattle.cd_term.specs.declared.Term.{Term}
use Rattle.cd_term.specs.declared.Term.TheVariants.{App}
use Rattle.cd_term.specs.Terms.{greatest, size_of, depth_of, IsMeasureOf}
use Rattle.cd_term.specs.Instances.{MeasuresAround}
use Rattle.cd_term.proofs.Measures.{greatest-append, arguments_within, symbol_measured}

-- a list with an item written is its front, the item and its back
pub set_around : {A : Type 0} (xs : List A) (i : ℕ) (x : A) → i < length xs → slice_set xs i x ≡ take i xs ++ x ∷ drop (i + 1) xs
set_around xs i x lt = set_split xs i x lt ∙ ap (λ n. take i xs ++ x ∷ drop n xs) (sym (add-one i))

-- the same of a list that is changed
pub changed_around : {A B : Type 0} (h : A → B) (xs us vs : List A) (i : ℕ) (x : B) → i < length xs → us ≡ take i xs → vs ≡ drop (i + 1) xs → slice_set (map h xs) i x ≡ map h us ++ x ∷ map h vs
changed_around {A} {B} h xs us vs i x lt is are =
    set_around (map h xs) i x (omega (arith, length-map xs h))
    ∙ ap₂ (λ (p q : List B). p ++ x ∷ q) (take-map h i xs ∙ ap (map h) (sym is)) (drop-map h (i + 1) xs ∙ ap (map h) (sym are))

-- as it is built
pub built_around : {A B : Type 0} (h : A → B) (xs us vs : List A) (start front middle all : List B) (i : ℕ) (x : B) → i < length xs → us ≡ take i xs → vs ≡ drop (i + 1) xs →
    start ≡ [] → front ≡ start ++ map h us → middle ≡ front ++ x ∷ [] → all ≡ middle ++ map h vs → all ≡ slice_set (map h xs) i x
built_around {A} {B} h xs us vs start front middle all i x lt is are empty first second third =
    third ∙ ap (λ (l : List B). l ++ map h vs) (second ∙ ap (λ (l : List B). l ++ x ∷ []) (first ∙ ap (λ (l : List B). l ++ map h us) empty))
    ∙ append_assoc (map h us) (x ∷ []) (map h vs) ∙ sym (changed_around h xs us vs i x lt is are)

-- ---- measures of lists, by the sizes and depths of their items

module _ {A : Type 0} (f d : A → ℕ) (symbols levels : ℕ) (xs ys zs : List A) (w : A) (is : zs ≡ xs ++ w ∷ ys) where
  around_size : sum_by f zs ≡ sum_by f xs + (f w + sum_by f ys)
  around_size = omega (arith, ap (sum_by f) is, sum_by-append f xs (w ∷ ys), sum_by-cons f w ys)

  around_depth : greatest (map d zs) ≡ max (greatest (map d xs)) (max (d w) (greatest (map d ys)))
  around_depth = ap (λ (l : List A). greatest (map d l)) is ∙ ap greatest (map-append d xs (w ∷ ys)) ∙ greatest-append (map d xs) (map d (w ∷ ys))

  pub inner_out : ¬ ((f w ≤ symbols) × (d w ≤ levels)) → ¬ ((sum_by f zs ≤ symbols) × (greatest (map d zs) ≤ levels))
  inner_out out within = out (omega (arith, around_size, within.0), omega (arith, around_depth, within.1))

  pub front_out : (inner : ℕ) → (inner ≡ f w) × ((f w ≤ symbols) × (d w ≤ levels)) →
      ¬ ((sum_by f xs ≤ symbols - inner) × (greatest (map d xs) ≤ levels)) → ¬ ((sum_by f zs ≤ symbols) × (greatest (map d zs) ≤ levels))
  front_out inner m out within = out (omega (arith, around_size, within.0, m.0), omega (arith, around_depth, within.1))

  pub back_out : (inner front : ℕ) → (inner ≡ f w) × ((f w ≤ symbols) × (d w ≤ levels)) →
      (front ≡ sum_by f xs) × ((sum_by f xs ≤ symbols - inner) × (greatest (map d xs) ≤ levels)) →
      ¬ ((sum_by f ys ≤ symbols - inner - front) × (greatest (map d ys) ≤ levels)) → ¬ ((sum_by f zs ≤ symbols) × (greatest (map d zs) ≤ levels))
  back_out inner front m g out within = out (omega (arith, around_size, within.0, m.0, g.0), omega (arith, around_depth, within.1))

  pub all_in : (inner front back : ℕ) → (inner ≡ f w) × ((f w ≤ symbols) × (d w ≤ levels)) →
      (front ≡ sum_by f xs) × ((sum_by f xs ≤ symbols - inner) × (greatest (map d xs) ≤ levels)) →
      (back ≡ sum_by f ys) × ((sum_by f ys ≤ symbols - inner - front) × (greatest (map d ys) ≤ levels)) →
      (inner + front + back ≡ sum_by f zs) × ((sum_by f zs ≤ symbols) × (greatest (map d zs) ≤ levels))
  all_in inner front back m g b = (
    omega (arith, around_size, m.0, g.0, b.0),
    (
      omega (arith, around_size, m.0, m.1.0, g.0, g.1.0, b.0, b.1.0),
      omega (arith, around_depth, m.1.1, g.1.1, b.1.1),
    ),
  )

-- ---- a symbol with its arguments, of which one gave way

module _ (symbols levels f : ℕ) (ts : List Term) (i : ℕ) where
  pub argument_outside : i < length ts → (o : Option Term) → IsMeasureOf (symbols - 1) (levels - 1) o None → IsMeasureOf symbols levels (option_map (λ v. App f (slice_set ts i v)) o) None
  argument_outside lt None m = refl
  argument_outside lt (Some w) m = λ within.
      inner_out size_of depth_of (symbols - 1) (levels - 1) (take i ts) (drop (i + 1) ts) (slice_set ts i w) w (set_around ts i w lt) m
      (arguments_within (App f (slice_set ts i w)) f (slice_set ts i w) (slice_set ts i w) symbols levels refl refl within)

  pub arguments_outside : (inner : ℕ) (o : Option Term) → IsMeasureOf (symbols - 1) (levels - 1) o (Some inner) → MeasuresAround (symbols - 1) (levels - 1) ts i inner None →
      IsMeasureOf symbols levels (option_map (λ v. App f (slice_set ts i v)) o) None
  arguments_outside inner None m around = refl
  arguments_outside inner (Some w) m around = λ within.
      around w m (arguments_within (App f (slice_set ts i w)) f (slice_set ts i w) (slice_set ts i w) symbols levels refl refl within)

  pub arguments_inside : (inner all : ℕ) (o : Option Term) → 0 < symbols → 0 < levels → IsMeasureOf (symbols - 1) (levels - 1) o (Some inner) → MeasuresAround (symbols - 1) (levels - 1) ts i inner (Some all) →
      IsMeasureOf symbols levels (option_map (λ v. App f (slice_set ts i v)) o) (Some (1 + all))
  arguments_inside inner all None some room m around = absurd (cc)
  arguments_inside inner all (Some w) some room m around =
      (let n = around w m in
      symbol_measured (App f (slice_set ts i w)) f (slice_set ts i w) (slice_set ts i w) symbols levels (1 + all) refl refl room (omega (arith, n.0), omega (arith, n.1.0, some), n.1.1))
