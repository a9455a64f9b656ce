use Rattle.std.proofs.Common.{◌≡◌, ◌++◌, List, take}
use Rattle.cd_names.specs.declared.names.Name.{Name}
use Rattle.cd_build.specs.Marks.{wanted_marks}
use Rattle.cd_build.proofs.chosen.want_all.Given as goal

abbrev pub invariant-loop-name : goal.invariant-loop-name
invariant-loop-name l = (ns : List Name) → l.initial.wanted ≡ wanted_marks ns l.known → l.wanted ≡ wanted_marks (ns ++ take l.name-index l.names) l.known
