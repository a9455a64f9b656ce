-- What a turn, and the effect of an event, take from the rules.
use Rattle.std.proofs.Common.{inl, inr, ℕ, List, ap}
use Rattle.cd_clause.proofs.Deciding as clauses
use Rattle.cd_clause.proofs.TidyForms.{tidy_forms_exist, tidy_forms_decide}
use Rattle.cd_clause.proofs.TidiedLemmas.{tidy_forms_agree}
use Rattle.cd_infer.proofs.RunLemmas.{within_decides}
use Rattle.cd_infer.proofs.Existing.{solos_exist, pairs_exist}
use Rattle.cd_subsume.proofs.Deciding.{subsumption_decides}
use Rattle.cd_rewrite.specs.Reduction.{Spot}
use Rattle.cd_rewrite.proofs.Agree.{reducts_agree}
use Rattle.cd_rewrite.proofs.Fitting.{tidy_substitutions_agree}
use Rattle.cd_rewrite.proofs.Deciding.{reducts_decide}
use Rattle.cd_machine.specs.Rules.{IsTautology, IsTidied, IsWithin, Subsumes, Reduces, ReductAt, IsConclusionWithin, SoloConcludes, PairConcludes}
use Rattle.cd_premises.specs.Meets.{DecisionsMeet, SinglesMeet}

spot : ℕ → ℕ → List ℕ → Spot
spot s j path = record { literal = j; path = path; side = s }

pub decisions_meet : DecisionsMeet
unfolding IsTautology IsTidied IsWithin Subsumes Reduces ReductAt IsConclusionWithin SoloConcludes PairConcludes
decisions_meet order = record {
  tautology = λ c. clauses.tautologies_decide c;
  subsumes = λ d c. subsumption_decides d c;
  reduces = λ e c. elim (reducts_decide order e c) [ inl r ↦ inl (r.0, r.3.first.here) | inr none ↦ inr none ];
  reduct = λ e c h. elim (reducts_decide order e c) [ inl r ↦ (r.0.side, r.0.literal, r.0.path, r.1, r.2, r.3) | inr none ↦ absurd (none h) ];
  reduct_once = λ e c s j k i path at t u d x r q. (reducts_agree order e c d x (record { literal = j; path = path; side = s }) (record { literal = i; path = at; side = k }) t u r q).1;
  reduct_reduces = λ e c s j path t d r. (record { literal = j; path = path; side = s }, r.first.here);
  tidied = λ c. tidy_forms_exist c;
  tidy = λ c. tidy_forms_decide c c;
  within = λ c. clauses.bounds_decide c;
  conclusion_within = λ x. within_decides x;
  solo = λ a c. solos_exist order a c;
  pair = λ a b c d. pairs_exist order a c b d;
}

pub singles_meet : SinglesMeet
unfolding IsTidied ReductAt
singles_meet order = record {
  reduct = λ e c s j k i path there t u d x tidy r q. (
      let at : Spot = record { literal = j; path = path; side = s } in
      let to : Spot = record { literal = i; path = there; side = k } in
      let same = reducts_agree order e c d x at to t u r q in
      (ap (λ (z : Spot). z.side) same.0, ap (λ (z : Spot). z.literal) same.0, ap (λ (z : Spot). z.path) same.0, tidy_substitutions_agree order e c d x at to t u tidy r q, same.1));
  tidied = λ c d x t u. tidy_forms_agree c d x t u;
}
