use Rattle.std.proofs.Common.{◌≡◌, ◌-◌, ◌≤◌, ℕ, map, take}
use Rattle.cd_term.specs.Terms.{substituted, ranked}
use Rattle.cd_unify.specs.Unifiers.{raised}
use Rattle.cd_unify.specs.Direct.{bound_to, resolved}
use Rattle.cd_unify.proofs.direct.+build.Given as goal

abbrev pub decreases-build : goal.decreases-build
decreases-build l = l.levels

abbrev pub invariant-loop-arg : goal.invariant-loop-arg
invariant-loop-arg l = (n : ℕ) → l.levels - 1 ≤ n →
    l.built ≡ take l.arg-index (map (substituted (ranked l.order)) (map (substituted (resolved (bound_to l.values) n)) (map (raised l.start.up) l.arg-items)))
