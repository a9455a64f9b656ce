use Rattle.std.proofs.Common.{◌≡◌, map, take}
use Rattle.cd_term.specs.Terms.{bound_of, greatest}
use Rattle.cd_term.proofs.sizes.+variable_bound.Given as goal

abbrev pub invariant-loop-arg : goal.invariant-loop-arg
invariant-loop-arg l = l.bound ≡ greatest (map bound_of (take l.arg-index l.arg-items))
