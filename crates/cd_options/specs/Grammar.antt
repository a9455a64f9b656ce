-- What a list of words gives: options with values, and a file.
use Rattle.std.specs.Prelude.{◌≡◌, ◌==◌, ◌++◌, ℕ, Bool, true, false, not, List, [], ◌∷◌, codes, Option, option_map, find}
use Rattle.std.specs.List.{list_any}
use Rattle.std.specs.Str.{bytes_eq}

abbrev pub Text : Type 0
Text = List ℕ

-- an option with its value, or the file under the name `file`
pub record Given : Type 0 where
  pub name : Text
  pub value : Text

-- the word doesn't begin with a hyphen, or is one hyphen
abbrev pub is_plain : Text → Bool
is_plain [] = true
is_plain (x ∷ []) = true
is_plain (x ∷ y ∷ rest) = not (x == 45)

abbrev pub IsAmong : List Text → Text → Type 0
IsAmong names name = list_any (λ n. bytes_eq n name) names ≡ true

abbrev pub dashed : Text → Text
dashed name = 45 ∷ 45 ∷ name

-- the words give these, in order
pub data Spells (names : List Text) : List Text → List Given → Type 0 where
  nothing : Spells names [] []
  -- a last `--` gives nothing
  ended : Spells names (dashed [] ∷ []) []
  -- the one word behind `--` is the file
  last : (w : Text) → Spells names (dashed [] ∷ w ∷ []) (record { name = codes "file"; value = w } ∷ [])
  file : (w : Text) (ws : List Text) (gs : List Given) → is_plain w ≡ true → Spells names ws gs
      → Spells names (w ∷ ws) (record { name = codes "file"; value = w } ∷ gs)
  apart : (name v : Text) (ws : List Text) (gs : List Given) → IsAmong names name → is_plain v ≡ true → Spells names ws gs
      → Spells names (dashed name ∷ v ∷ ws) (record { name = name; value = v } ∷ gs)
  joined : (name v : Text) (ws : List Text) (gs : List Given) → IsAmong names name → Spells names ws gs
      → Spells names (dashed (name ++ 61 ∷ v) ∷ ws) (record { name = name; value = v } ∷ gs)

-- no name is given twice
abbrev pub AtMostOnce : List Given → Type 0
AtMostOnce [] = Unit {0}
AtMostOnce (g ∷ gs) = (list_any (λ h. bytes_eq g.name h.name) gs ≡ false) × AtMostOnce gs

-- the value that is given to a name
abbrev pub value_of : List Given → Text → Option Text
value_of gs name = option_map (λ g. g.value) (find (λ g. bytes_eq g.name name) gs)
