use Rattle.std.proofs.Common.{◌-◌, ◌≤◌, ℕ, map}
use Rattle.cd_term.specs.Terms.{substituted}
use Rattle.cd_unify.specs.Unifiers.{raised}
use Rattle.cd_unify.specs.Direct.{bound_to, resolved}
use Rattle.cd_unify.proofs.DirectEnds.{SomeSurveyed}
use Rattle.cd_unify.proofs.direct.+survey.Given as goal

abbrev pub decreases-survey : goal.decreases-survey
decreases-survey l = l.levels

abbrev pub invariant-loop-arg : goal.invariant-loop-arg
invariant-loop-arg l = record {
  few : l.total ≤ l.symbols;
  surveyed : (n : ℕ) → l.levels - 1 ≤ n → SomeSurveyed (l.levels - 1) 1 l.initial.seen l.seen l.total
      (map (substituted (resolved (bound_to l.values) n)) (map (raised l.start.up) l.arg-items)) l.arg-index;
}
