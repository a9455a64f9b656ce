-- The first item of a list that has a property.
use Rattle.std.specs.List.{AllByRecursion as Each}
use Rattle.std.specs.Prelude.{List, ◌++◌, ◌∷◌, ◌≡◌}

-- the first element with P, in its place
pub record IsFirst {A : Type 0} (P : A → Type 0) (xs : List A) (x : A) : Type 0 where
  pub front : List A
  pub back : List A
  pub split : xs ≡ front ++ x ∷ back
  pub is : P x
  pub first : Each (λ y. ¬ P y) front
