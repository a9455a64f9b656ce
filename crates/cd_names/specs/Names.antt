-- Names that are equal, and lists of names.
use Rattle.std.specs.Prelude.{Bool, ◌&&◌, ◌==◌, if◌then◌else◌, List, [], ◌∷◌, ◌++◌}
use Rattle.std.specs.List.{list_any}
use Rattle.cd_names.specs.declared.names.Name.{Name}

-- the same name: the same number at the same peer
abbrev pub name_eq : Name → Name → Bool
name_eq a b = a.peer == b.peer && a.seq == b.seq

abbrev pub add_once : List Name → Name → List Name
add_once seen n = if list_any (λ m. name_eq m n) seen then seen else seen ++ n ∷ []

-- the names behind those that were seen, each once, in the order of first mention
abbrev pub each_once : List Name → List Name → List Name
each_once seen [] = seen
each_once seen (n ∷ ns) = each_once (add_once seen n) ns
