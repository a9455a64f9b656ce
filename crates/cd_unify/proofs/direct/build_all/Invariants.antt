use Rattle.std.proofs.Common.{◌≡◌, ◌≤◌, ℕ, map, take}
use Rattle.cd_term.specs.Terms.{substituted, ranked}
use Rattle.cd_unify.specs.Unifiers.{raised}
use Rattle.cd_unify.specs.Direct.{bound_to, resolved}
use Rattle.cd_unify.proofs.direct.build_all.Given as goal

abbrev pub invariant-loop-term : goal.invariant-loop-term
invariant-loop-term l = (n : ℕ) → 1000 ≤ n →
    l.built ≡ take l.term-index (map (substituted (ranked l.order)) (map (substituted (resolved (bound_to l.values) n)) (map (raised 0) l.terms)))
