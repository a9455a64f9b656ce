-- Lists sorted downwards, and how often an item occurs.
use Rattle.std.specs.Prelude.{ℕ, ◌≡◌, ◌≢◌, Bool, true, false, not, nat_eq, List, [], ◌∷◌, Option, Some, None, count_by, if◌then◌else◌}
use Rattle.std.specs.List.{AllByRecursion}
use Rattle.std.specs.Ordering.{is_lt, is_eq}
use Rattle.std.specs.declared.cmp.Ordering.{Ordering}
use Rattle.std.specs.declared.cmp.Ordering.TheVariants.{Less}

module _ {X : Type 0} where
  -- an item put before the first one of a list that is no greater
  abbrev pub put_down : (X → X → Ordering) → X → List X → List X
  put_down R x [] = x ∷ []
  put_down R x (y ∷ ys) = if is_lt (R x y) then y ∷ put_down R x ys else x ∷ y ∷ ys

  -- the items sorted downwards
  abbrev pub sorted_down : (X → X → Ordering) → List X → List X
  sorted_down R [] = []
  sorted_down R (x ∷ xs) = put_down R x (sorted_down R xs)

  -- how many items of a list compare as equal to one
  abbrev pub count_of : (X → X → Ordering) → X → List X → ℕ
  count_of R x ys = count_by (λ y. is_eq (R x y)) ys

  -- an item occurs more often in one list than in the other
  abbrev pub counts_differ : (X → X → Ordering) → List X → List X → X → Bool
  counts_differ R c d x = not (nat_eq (count_of R x c) (count_of R x d))

  -- a greatest one of the items that pass a test, or nothing where none does
  abbrev pub IsTop : (X → X → Ordering) → (X → Bool) → List X → Option X → Type 0
  IsTop R p xs None = AllByRecursion (λ y. p y ≡ false) xs
  IsTop R p xs (Some x) = (p x ≡ true) × AllByRecursion (λ y. p y ≡ true → R x y ≢ Less) xs
