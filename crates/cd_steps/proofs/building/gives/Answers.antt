use Rattle.std.proofs.Common.{List, sym, refl, subst}
use Rattle.std.proofs.lemmas.Bool.{false≢true}
use Rattle.cd_clause.specs.declared.Literal.{Literal}
use Rattle.cd_clause.specs.Clauses.{AreLiteralsWithin}
use Rattle.cd_steps.specs.Drafts.{concluded_under, GivenBy}
use Rattle.cd_steps.proofs.Giving.{clause_given, subst_outside, clause_outside}
use Rattle.cd_steps.proofs.building.gives.Goals as goal

pub returns-then-not-is_subst_within : goal.returns-then-not-is_subst_within
returns-then-not-is_subst_within c =
    let d = c.args.draft.now in let s = c.args.s.now in let r = c.in-Some.r.now in
    subst_outside (GivenBy d s) s (record { literals = concluded_under s r d })
    (clause_given d s r (concluded_under s r d) c.in-Some.ensures.some.0 c.in-Some.ensures.some.1 (c.if-not-all_same_applied.ensures.0 refl) refl)
    (λ w. false≢true (c.if-not-is_subst_within.ensures.1 w))

pub returns-in_default-measure_concluded : goal.returns-in_default-measure_concluded
returns-in_default-measure_concluded c =
    let d = c.args.draft.now in let s = c.args.s.now in let r = c.in-Some.r.now in
    clause_outside (GivenBy d s) s (record { literals = concluded_under s r d })
    (clause_given d s r (concluded_under s r d) c.in-Some.ensures.some.0 c.in-Some.ensures.some.1 (c.if-not-all_same_applied.ensures.0 refl) refl)
    c.in_default-measure_concluded.ensures

pub returns : goal.returns
returns c =
    let d = c.args.draft.now in let s = c.args.s.now in let r = c.in-Some.r.now in (
      clause_given d s r _ c.in-Some.ensures.some.0 c.in-Some.ensures.some.1 (c.if-not-all_same_applied.ensures.0 refl) c.in_ok-concluded.ensures,
      (
        c.if-not-is_subst_within.ensures.0 refl,
        subst (λ (ks : List Literal). AreLiteralsWithin 65535 1000 ks) (sym c.in_ok-concluded.ensures) c.in-Some-measure_concluded.ensures.1,
      ),
    )
