use Rattle.std.proofs.Common.{ℕ, List, Some, ap, refl, subst}
use Rattle.std.specs.Option.{option_copied}
use Rattle.cd_steps.specs.declared.drafts.Plan.TheVariants.{Follows}
use Rattle.cd_steps.specs.Rules.{IsResolution, IsFactoring, IsReflexivity, IsEqualityFactoring, IsParamodulation}
use Rattle.cd_steps.specs.Drafts.{IsDraft, IsRewritingDraft}
use Rattle.cd_steps.proofs.Unique.{resolution_one, factoring_one, reflexivity_one, equality_factoring_one, paramodulation_one}
use Rattle.cd_steps.proofs.Planning.{plan_of_known, rule_planned, rewriting_planned, standing_planned}
use Rattle.cd_steps.proofs.plan_of.Goals as goal

pub returns-in-Input-default-Some-default-clause-plan : goal.returns-in-Input-default-Some-default-clause-plan
returns-in-Input-default-Some-default-clause-plan c =
    let a = c.in-Input-default-Some-default in
    plan_of_known c.args.step.now _ (option_copied c.args.current) (option_copied c.args.first) (option_copied c.args.second)
    (option_copied c.args.current) (Some a.c.now) (option_copied c.args.second) (Follows c.standing.result) a.is-0 refl (ap option_copied a.is-2) refl
    (standing_planned a.c.now c.standing.result c.standing.ensures)

pub returns-in-Copy-default-Some-default-clause-plan : goal.returns-in-Copy-default-Some-default-clause-plan
returns-in-Copy-default-Some-default-clause-plan c =
    let a = c.in-Copy-default-Some-default in
    plan_of_known c.args.step.now _ (option_copied c.args.current) (option_copied c.args.first) (option_copied c.args.second)
    (option_copied c.args.current) (Some a.c.now) (option_copied c.args.second) (Follows c.standing-in-Copy-default-Some-default.result) a.is-0 refl (ap option_copied a.is-2) refl
    (standing_planned a.c.now c.standing-in-Copy-default-Some-default.result c.standing-in-Copy-default-Some-default.ensures)

pub returns-in-Resolve-default-Some-Some-clause-plan : goal.returns-in-Resolve-default-Some-Some-clause-plan
returns-in-Resolve-default-Some-Some-clause-plan c =
    let a = c.in-Resolve-default-Some-Some in
    plan_of_known c.args.step.now _ (option_copied c.args.current) (option_copied c.args.first) (option_copied c.args.second)
    (option_copied c.args.current) (Some a.a.now) (Some a.b.now) c.planned.result a.is-0 refl (ap option_copied a.is-2) (ap option_copied a.is-3)
    (rule_planned (IsResolution a.a.now a.i a.b.now a.j) (resolution_one a.a.now a.i a.b.now a.j) a.subst-0 c.resolution.result c.planned.result c.resolution.ensures c.planned.ensures)

pub returns-in-Factor-default-Some-default-clause-plan : goal.returns-in-Factor-default-Some-default-clause-plan
returns-in-Factor-default-Some-default-clause-plan c =
    let a = c.in-Factor-default-Some-default in
    plan_of_known c.args.step.now _ (option_copied c.args.current) (option_copied c.args.first) (option_copied c.args.second)
    (option_copied c.args.current) (Some a.c.now) (option_copied c.args.second) c.planned-in-Factor-default-Some-default.result a.is-0 refl (ap option_copied a.is-2) refl
    (rule_planned (IsFactoring a.c.now a.i a.j) (factoring_one a.c.now a.i a.j) a.subst-0 c.factoring.result c.planned-in-Factor-default-Some-default.result c.factoring.ensures c.planned-in-Factor-default-Some-default.ensures)

pub returns-in-Refl-default-Some-default-clause-plan : goal.returns-in-Refl-default-Some-default-clause-plan
returns-in-Refl-default-Some-default-clause-plan c =
    let a = c.in-Refl-default-Some-default in
    plan_of_known c.args.step.now _ (option_copied c.args.current) (option_copied c.args.first) (option_copied c.args.second)
    (option_copied c.args.current) (Some a.c.now) (option_copied c.args.second) c.planned-in-Refl-default-Some-default.result a.is-0 refl (ap option_copied a.is-2) refl
    (rule_planned (IsReflexivity a.c.now a.i) (reflexivity_one a.c.now a.i) a.subst-0 c.reflexivity.result c.planned-in-Refl-default-Some-default.result c.reflexivity.ensures c.planned-in-Refl-default-Some-default.ensures)

pub returns-in-EqFac-default-Some-default-clause-plan : goal.returns-in-EqFac-default-Some-default-clause-plan
returns-in-EqFac-default-Some-default-clause-plan c =
    let a = c.in-EqFac-default-Some-default in
    plan_of_known c.args.step.now _ (option_copied c.args.current) (option_copied c.args.first) (option_copied c.args.second)
    (option_copied c.args.current) (Some a.c.now) (option_copied c.args.second) c.planned-in-EqFac-default-Some-default.result a.is-0 refl (ap option_copied a.is-2) refl
    (rule_planned (IsEqualityFactoring a.c.now a.i a.s a.j a.z) (equality_factoring_one a.c.now a.i a.s a.j a.z) a.subst-0 c.equality_factoring.result c.planned-in-EqFac-default-Some-default.result c.equality_factoring.ensures c.planned-in-EqFac-default-Some-default.ensures)

pub returns-in-Para-default-Some-Some-clause-plan : goal.returns-in-Para-default-Some-Some-clause-plan
returns-in-Para-default-Some-Some-clause-plan c =
    let a = c.in-Para-default-Some-Some in
    plan_of_known c.args.step.now _ (option_copied c.args.current) (option_copied c.args.first) (option_copied c.args.second)
    (option_copied c.args.current) (Some a.a.now) (Some a.b.now) c.planned-in-Para-default-Some-Some.result a.is-0 refl (ap option_copied a.is-2) (ap option_copied a.is-3)
    (rule_planned (IsParamodulation a.a.now a.i a.s a.b.now a.j a.at) (paramodulation_one a.a.now a.i a.s a.b.now a.j a.at) a.subst-0 c.paramodulation.result c.planned-in-Para-default-Some-Some.result
    (subst (λ (q : List ℕ). IsDraft (IsParamodulation a.a.now a.i a.s a.b.now a.j q) c.paramodulation.result) c.as_slice.ensures c.paramodulation.ensures) c.planned-in-Para-default-Some-Some.ensures)

pub returns-in-Rewrite-Some-Some-default-clause-plan : goal.returns-in-Rewrite-Some-Some-default-clause-plan
returns-in-Rewrite-Some-Some-default-clause-plan c =
    let a = c.in-Rewrite-Some-Some-default in
    plan_of_known c.args.step.now _ (option_copied c.args.current) (option_copied c.args.first) (option_copied c.args.second)
    (Some a.c.now) (Some a.e.now) (option_copied c.args.second) c.planned-in-Rewrite-Some-Some-default.result a.is-0 (ap option_copied a.is-1) (ap option_copied a.is-2) refl
    (rewriting_planned a.e.now a.s a.c.now a.j a.at a.subst-0 c.rewriting.result c.planned-in-Rewrite-Some-Some-default.result
    (subst (λ (q : List ℕ). IsRewritingDraft a.e.now a.s a.c.now a.j q c.rewriting.result) c.as_slice-in-Rewrite-Some-Some-default.ensures c.rewriting.ensures) c.planned-in-Rewrite-Some-Some-default.ensures)
