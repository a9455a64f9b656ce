-- Held clauses by their names.
-- Beyond the headline: no clause of `prove` reaches this file.
use Rattle.std.specs.Prelude.{ℕ, ◌≡◌, Bool, if◌then◌else◌, List, [], ◌∷◌, Some, None, remove, slice_get}
use Rattle.std.specs.List.{find}
use Rattle.cd_names.specs.declared.names.Name.{Name}
use Rattle.cd_names.specs.Names.{name_eq}
use Rattle.cd_contract.specs.declared.held.Entry.{Entry}

abbrev pub is_named : Name → Entry → Bool
is_named n e = name_eq e.name n

-- the entries without the first one of a name
abbrev pub without : Name → List Entry → List Entry
without n [] = []
without n (e ∷ es) = if is_named n e then es else e ∷ without n es

-- no entry has a name, or the first one that has it is in a place
pub record NoneNamed (n : Name) (es : List Entry) : Type 0 where
  pub nothing : find (is_named n) es ≡ None
  pub whole : without n es ≡ es

pub record IsPlaceOf (n : Name) (es : List Entry) (i : ℕ) : Type 0 where
  pub entry : Entry
  pub there : slice_get es i ≡ Some entry
  pub found : find (is_named n) es ≡ Some entry
  pub rest : without n es ≡ remove es i
