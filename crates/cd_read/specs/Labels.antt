-- Labels by their last places, and labels that are wanted.
-- Beyond the headline: no clause of `prove` reaches this file.
use Rattle.std.specs.Prelude.{◌≡◌, ◌≢◌, ◌<◌, ◌↔◌, ℕ, List, Option, Some, None, slice_get, Contains}
use Rattle.std.specs.List.{AllByRecursion}
use Rattle.indexmap.specs.IndexMap.{get, IndexMap}
use Rattle.cd_parse.specs.declared.label.Label.{Label}
use Rattle.cd_parse.specs.contracts.label.LabelPartialEq.TheImpl.{eq-value}
use Rattle.cd_read.specs.declared.labels.Wanted.{Wanted}
use Rattle.cd_read.specs.declared.labels.Wanted.TheVariants.{All, Listed}

-- the last place of a label, if it has one
abbrev pub LastAt : List Label → Label → Option ℕ → Type 0
LastAt labels l (Some n) = (slice_get labels n ≡ Some l) × ((k : ℕ) → n < k → slice_get labels k ≢ Some l)
LastAt labels l None = (k : ℕ) → slice_get labels k ≢ Some l

abbrev pub KnowsPlaces : {S : Type 0} → List Label → IndexMap Label ℕ S → Type 0
KnowsPlaces labels places = (l : Label) → LastAt labels l (get eq-value.it places l)

abbrev pub IsWanted : Wanted → Label → Type 0
IsWanted All l = Unit {0}
IsWanted (Listed labels) l = Contains labels.keys l

-- what is wanted is in each of the lists
abbrev pub Wants : Wanted → List (List Label) → Type 0
Wants w lists = (l : Label) → IsWanted w l ↔ AllByRecursion (λ ls. Contains ls l) lists
