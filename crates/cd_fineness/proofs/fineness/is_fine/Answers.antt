use Rattle.std.proofs.Common.{◌≡◌, ◌↔◌, true, List, refl, ap, sym, ◌∙◌, subst}
use Rattle.std.specs.Prelude.{None}
use Rattle.cd_acts.specs.View.{local_of}
use Rattle.cd_clause.specs.Clauses.{clause_size}
use Rattle.cd_ledger.specs.Records.{cites_of, recorded}
use Rattle.cd_machine.specs.Right.{Lead}
use Rattle.cd_steps.specs.declared.Step.{Step}
use Rattle.cd_fineness.proofs.Fine.{fine_is, small_size}
use Rattle.cd_fineness.proofs.fineness.is_fine.Goals as goal

pub returns : goal.returns
returns c =
    let cites : c.as_slice-2.result.now ≡ cites_of c.args.r.now.steps = c.as_slice-2.ensures ∙ c.in_ok-cites.ensures ∙ ap (λ (ss : List Step). cites_of ss) c.as_slice-steps.ensures in
    let fit = c.is_fit.ensures.0 c.if-not-is_fit.false in
    let sum : c.size-sum.result ≡ clause_size c.args.r.now.clause = c.size-sum.ensures ∙ small_size (clause_size c.args.r.now.clause) fit.within.0 in
    rw c.all_tests.ensures
    (fine_is c.args.problem.now (local_of c.args.state.now) c.args.sender c.args.r.now
    c.named_test-named.result c.is_shaped-shaped.result c.same_items-cited.result c.in_ok-led.led c.is_tidy-tidy.result true c.is_tautology-trivial.result
    (c.named_test-named.ensures ∙ rw (c.owner_of-owner.ensures, sum, c.is_known-known.ensures) refl)
    (c.is_shaped-shaped.ensures ∙ rw c.as_slice-steps.ensures refl)
    ((λ e. sym c.as_slice.ensures ∙ c.same_items-cited.ensures.0 e ∙ cites), (λ e. c.same_items-cited.ensures.1 (c.as_slice.ensures ∙ e ∙ sym cites)))
    (subst (λ (ss : List Step). (c.in_ok-led.led ≡ true) ↔ Lead c.args.problem.now (λ n. recorded n c.args.state.now.known) None ss c.args.r.now.clause) c.as_slice-steps.ensures c.in_ok-led.ensures)
    c.is_tidy-tidy.ensures ((λ e. fit), (λ h. refl)) c.is_tautology-trivial.ensures)
