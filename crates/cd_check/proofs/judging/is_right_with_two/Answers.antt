use Rattle.std.proofs.Common.{◌≡◌, ◌∙◌, length, true, false, sym}
use Rattle.cd_steps.specs.Premises.{premises, goes_on}
use Rattle.cd_check.proofs.Rightness.{with_two}
use Rattle.cd_check.proofs.judging.is_right_with_two.Goals as goal

pub returns-then-goes_on : goal.returns-then-goes_on
returns-then-goes_on c =
    let count : length (premises c.args.step.now) ≡ 2 = sym c.premise_count.ensures ∙ c.if-premise_count-ne2.false in
    with_two true c.step_ok.result c.args.step.now c.args.first.now c.args.second.now c.args.conclusion.now (sym c.goes_on.ensures ∙ c.if-goes_on.true) count c.step_ok.ensures

pub returns-else-goes_on : goal.returns-else-goes_on
returns-else-goes_on c =
    let count : length (premises c.args.step.now) ≡ 2 = sym c.premise_count.ensures ∙ c.if-premise_count-ne2.false in
    with_two false c.step_ok-else-goes_on.result c.args.step.now c.args.first.now c.args.second.now c.args.conclusion.now (sym c.goes_on.ensures ∙ c.if-goes_on.false) count c.step_ok-else-goes_on.ensures
