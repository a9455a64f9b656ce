use Rattle.std.proofs.Common.{◌≡◌, map, take}
use Rattle.cd_term.specs.Terms.{applied}
use Rattle.cd_term.proofs.substitution.+substitute.Given as goal

abbrev pub invariant-loop-arg : goal.invariant-loop-arg
invariant-loop-arg l = l.values ≡ map (applied l.s) (take l.arg-index l.arg-items)
