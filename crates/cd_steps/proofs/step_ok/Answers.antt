use Rattle.std.specs.Option.{option_copied}
use Rattle.cd_steps.specs.Steps.{StepOk}
use Rattle.cd_steps.proofs.Planning.{step_decided}
use Rattle.cd_steps.proofs.step_ok.Goals as goal

pub returns-in-Follows : goal.returns-in-Follows
returns-in-Follows c =
    step_decided (StepOk c.args.step.now (option_copied c.args.current) (option_copied c.args.first) (option_copied c.args.second))
    _ _ _ _ _ _ c.in-Follows.is c.subst.ensures c.plan_of.ensures.plan c.follows.ensures
