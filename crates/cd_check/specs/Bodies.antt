-- Texts that are found by their bytes.
-- Beyond the headline: no clause of `prove` reaches this file.
use Rattle.std.specs.Prelude.{◌≡◌, ◌||◌, ℕ, Bool, List, bytes_eq}
use Rattle.std.specs.List.{list_any}

abbrev pub is_there : List (List ℕ) → List ℕ → Bool
is_there bodies w = list_any (λ b. bytes_eq w b) bodies

-- a text more
abbrev pub IsAdded : List (List ℕ) → List (List ℕ) → List ℕ → Type 0
IsAdded old new body = (w : List ℕ) → is_there new w ≡ (bytes_eq w body || is_there old w)
