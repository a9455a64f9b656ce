use Rattle.std.proofs.Common.{List, sym, ◌∙◌, subst}
use Rattle.std.specs.Prelude.{Option}
use Rattle.std.specs.Option.{option_copied}
use Rattle.std.proofs.lemmas.Bool.{false≢true}
use Rattle.cd_clause.specs.declared.Clause.{Clause}
use Rattle.cd_ledger.specs.Records.{recorded}
use Rattle.cd_machine.specs.Rules.{IsSubstFit}
use Rattle.cd_term.specs.declared.Term.{Term}
use Rattle.cd_fineness.specs.Fine.{IsAnswer}
use Rattle.cd_fineness.proofs.Replaying.{replay_none, replay_some, replay_unfit}
use Rattle.cd_fineness.proofs.fineness.replayed.Goals as goal

pub returns-in-None : goal.returns-in-None
returns-in-None c =
    replay_none c.args.problem.now (λ n. recorded n c.args.known.now) (option_copied c.args.behind) c.args.step.now c.premises-p.result (option_copied c.standing-first.result) (option_copied c.standing_if_any-second.result) c.is_before.result
    c.premises-p.ensures c.standing-first.ensures c.standing_if_any-second.ensures c.is_before.ensures
    (subst (λ (o : Option Clause). IsAnswer c.args.step.now (option_copied c.standing-first.result) (option_copied c.standing_if_any-second.result) c.is_before.result o) c.in-None.is c.in_ok-result_within.ensures)

pub returns-then-are_fit : goal.returns-then-are_fit
returns-then-are_fit c =
    let fit = c.are_fit.ensures.0 c.if-are_fit.true in
    replay_some c.args.problem.now (λ n. recorded n c.args.known.now) (option_copied c.args.behind) c.args.step.now c.premises-p.result (option_copied c.standing-first.result) (option_copied c.standing_if_any-second.result) c.is_before.result
    c.premises-p.ensures c.standing-first.ensures c.standing_if_any-second.ensures c.is_before.ensures c.registries.ensures.one c.in-Some.c
    (subst (λ (o : Option Clause). IsAnswer c.args.step.now (option_copied c.standing-first.result) (option_copied c.standing_if_any-second.result) c.is_before.result o) c.in-Some.is c.in_ok-result_within.ensures)
    fit.0 (subst (λ (ts : List Term). IsSubstFit c.args.problem.now ts) c.subst.ensures fit.1)

pub returns-else-are_fit : goal.returns-else-are_fit
returns-else-are_fit c =
    replay_unfit c.args.problem.now (λ n. recorded n c.args.known.now) (option_copied c.args.behind) c.args.step.now c.premises-p.result (option_copied c.standing-first.result) (option_copied c.standing_if_any-second.result) c.is_before.result
    c.premises-p.ensures c.standing-first.ensures c.standing_if_any-second.ensures c.is_before.ensures c.registries.ensures.one c.in-Some.c
    (subst (λ (o : Option Clause). IsAnswer c.args.step.now (option_copied c.standing-first.result) (option_copied c.standing_if_any-second.result) c.is_before.result o) c.in-Some.is c.in_ok-result_within.ensures)
    (λ fit. false≢true (sym c.if-are_fit.false ∙ c.are_fit.ensures.1 (fit.0, subst (λ (ts : List Term). IsSubstFit c.args.problem.now ts) (sym c.subst.ensures) fit.1)))
