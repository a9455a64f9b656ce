use Rattle.std.proofs.Common.{◌≡◌, take}
use Rattle.std.specs.List.{flat_map}
use Rattle.cd_term.specs.Terms.{variables_of, firsts_after}
use Rattle.cd_clause.proofs.renumbering.+note.Given as goal

abbrev pub invariant-loop-arg : goal.invariant-loop-arg
invariant-loop-arg l = l.seen.keys ≡ firsts_after l.initial.seen.keys (flat_map variables_of (take l.arg-index l.arg-items))
