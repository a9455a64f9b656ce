use Rattle.std.proofs.Common.{◌≤◌, ℕ, map}
use Rattle.cd_term.specs.Terms.{substituted}
use Rattle.cd_unify.specs.Unifiers.{raised}
use Rattle.cd_unify.specs.Direct.{bound_to, resolved}
use Rattle.cd_unify.proofs.DirectEnds.{SomeSurveyed}
use Rattle.cd_unify.proofs.direct.survey_all.Given as goal

abbrev pub invariant-loop-term : goal.invariant-loop-term
invariant-loop-term l = record {
  few : l.total ≤ 65535;
  surveyed : (n : ℕ) → 1000 ≤ n → SomeSurveyed 1000 0 l.initial.seen l.seen l.total
      (map (substituted (resolved (bound_to l.values) n)) (map (raised 0) l.terms)) l.term-index;
}
