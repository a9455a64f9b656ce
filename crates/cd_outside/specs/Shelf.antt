-- A shelf: files in memory, and the calls that fail.
-- Beyond the headline: no clause of `prove` reaches this file.
use Rattle.std.specs.Prelude.{ℕ, List, [], ◌∷◌, ◌++◌, take, Option, None, Some, ◌==◌, if◌then◌else◌}
use Rattle.std.specs.List.{list_any}
use Rattle.std.specs.Option.{option_map}
use Rattle.std.specs.Str.{bytes_eq}
use Rattle.cd_outside.specs.Outside.{counted}

pub record ShelfState : Type 0 where
  pub files : List (List ℕ × List ℕ)
  pub fails : List ℕ
  pub calls : ℕ
  pub faults : ℕ
  pub given : List (List ℕ × List ℕ)

-- the bytes of the first file with this path
abbrev pub bytes_of : List (List ℕ × List ℕ) → List ℕ → Option (List ℕ)
bytes_of [] path = None
bytes_of (file ∷ files) path = if bytes_eq file.0 path then Some file.1 else bytes_of files path

-- what the next call is to give: the first bytes of the first file with this path, unless the call is one of those that fail
abbrev pub front_of : ShelfState → List ℕ → ℕ → Option (List ℕ)
front_of shelf path cap = if list_any (λ number. number == shelf.calls) shelf.fails then None else option_map (take cap) (bytes_of shelf.files path)

-- after a call that gave nothing
abbrev pub called : ShelfState → ShelfState
called shelf = record shelf { calls = counted shelf.calls }

-- after a call that failed
abbrev pub faulted : ShelfState → ShelfState
faulted shelf = record shelf { calls = counted shelf.calls; faults = counted shelf.faults }

-- after a call that gave these bytes
abbrev pub gave : ShelfState → List ℕ → List ℕ → ShelfState
gave shelf path bytes = record shelf { calls = counted shelf.calls; given = shelf.given ++ (path, bytes) ∷ [] }
