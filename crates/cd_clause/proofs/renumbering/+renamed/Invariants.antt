use Rattle.std.proofs.Common.{◌≡◌, map, take}
use Rattle.cd_term.specs.Terms.{substituted, ranked}
use Rattle.cd_clause.proofs.renumbering.+renamed.Given as goal

abbrev pub invariant-loop-arg : goal.invariant-loop-arg
invariant-loop-arg l = l.values ≡ map (substituted (ranked l.order.keys)) (take l.arg-index l.arg-items)
