-- How a table is stored: each text once, and the symbols with the places of their texts.
-- Beyond the headline: no clause of `prove` reaches this file.
use Rattle.std.specs.Prelude.{◌≡◌, ◌<◌, [], ℕ, List, Some, slice_get, slice_index_or}
use Rattle.cd_symbols.specs.declared.Key.{Key}
use Rattle.cd_symbols.specs.Symbol.{Symbol}

-- the symbol of a key
abbrev pub shown : List (List ℕ) → Key → Symbol
shown texts key = record { text = slice_index_or texts key.text []; arity = key.arity; kind = key.kind }

-- the text of each key is there
abbrev pub AreWithin : ℕ → List Key → Type 0
AreWithin count keys = (n : ℕ) (key : Key) → slice_get keys n ≡ Some key → key.text < count
