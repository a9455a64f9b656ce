-- Lists of what places give, in the order of the places.
-- Beyond the headline: no clause of `prove` reaches Adds, Overflows, Gathers.
use Rattle.std.specs.Prelude.{◌≡◌, ◌⊎◌, List, [], ◌∷◌, ◌++◌, Result, Ok, Err}
use Rattle.std.specs.List.{AllByRecursion}
use Rattle.cd_term.specs.declared.TermFault.{TermFault}
use Rattle.cd_term.specs.declared.TermFault.TheVariants.{OutOfBounds, Memory}
use Rattle.cd_list.specs.Lists.{Among}

-- each place gives one item, or nothing where it can't give any, and the list is what they give, in their order
abbrev pub Listed : {K X : Type 0} → (K → X → Type 0) → (K → Type 0) → List K → List X → Type 0
Listed {K} {X} Gives Can [] xs = xs ≡ []
Listed {K} {X} Gives Can (k ∷ ks) xs =
    ((x : X) × (others : List X) × Gives k x × Listed Gives Can ks others × (xs ≡ x ∷ others))
    ⊎ ((Can k → ⊥) × Listed Gives Can ks xs)

-- a list grew by what the places give, and each of that is fine
pub record Adds {K X : Type 0} (Gives : K → X → Type 0) (Can : K → Type 0) (IsFine : X → Type 0) (ks : List K) (old new : List X) : Type 0 where
  pub part : List X
  pub listed : Listed Gives Can ks part
  pub fine : AllByRecursion IsFine part
  pub appended : new ≡ old ++ part

-- some place gives an item that isn't fine
abbrev pub Overflows : {K X : Type 0} → (K → X → Type 0) → (X → Type 0) → List K → Type 0
Overflows {K} {X} Gives IsFine ks = Among (λ k. (x : X) × Gives k x × (IsFine x → ⊥)) ks

-- what a search of some places makes of a list: it grew by what they give, or some place gives an item that isn't
-- fine, or memory ran out
abbrev pub Gathers : {K X U : Type 0} → (K → X → Type 0) → (K → Type 0) → (X → Type 0) → List K → List X → List X → Result U TermFault → Type 0
Gathers Gives Can IsFine ks old new (Ok u) = Adds Gives Can IsFine ks old new
Gathers Gives Can IsFine ks old new (Err OutOfBounds) = Overflows Gives IsFine ks
Gathers Gives Can IsFine ks old new (Err Memory) = Unit {0}
