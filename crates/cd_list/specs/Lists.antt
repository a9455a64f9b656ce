-- Lists: some item, each pair, how many pass a test, and lists that are gathered from parts.
-- Beyond the headline: no clause of `prove` reaches AllPairs, Gathered.
use Rattle.std.specs.Prelude.{◌≡◌, ◌⊎◌, ℕ, ◌+◌, Bool, if◌then◌else◌, List, [], ◌∷◌, ◌++◌}
use Rattle.std.specs.List.{AllByRecursion}

-- some item of a list
abbrev pub Among : {A : Type 0} → (A → Type 0) → List A → Type 0
Among P [] = ⊥
Among P (x ∷ xs) = P x ⊎ Among P xs

-- each item with each later one
abbrev pub AllPairs : {A : Type 0} → (A → A → Type 0) → List A → Type 0
AllPairs P [] = Unit {0}
AllPairs P (x ∷ xs) = AllByRecursion (P x) xs × AllPairs P xs

-- how many items pass a test
abbrev pub tally : {X : Type 0} → (X → Bool) → List X → ℕ
tally {X} test [] = 0
tally {X} test (x ∷ xs) = (if test x then 1 else 0) + tally test xs

-- the list is one part for each of these places, in their order, where R says which part a place gives
abbrev pub Gathered : {X : Type 0} → (ℕ → List X → Type 0) → List ℕ → List X → Type 0
Gathered {X} R [] xs = xs ≡ []
Gathered {X} R (k ∷ ks) xs = (part : List X) × (others : List X) × R k part × Gathered R ks others × (xs ≡ part ++ others)
