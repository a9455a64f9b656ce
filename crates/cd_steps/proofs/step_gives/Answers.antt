use Rattle.std.specs.Option.{option_copied}
use Rattle.cd_steps.specs.Steps.{StepOk}
use Rattle.cd_steps.specs.Bounds.{subst_of}
use Rattle.cd_steps.proofs.Giving.{plan_followed, plan_tidied}
use Rattle.cd_steps.proofs.step_gives.Goals as goal

pub returns-in-Follows : goal.returns-in-Follows
returns-in-Follows c =
    plan_followed (StepOk c.args.step.now (option_copied c.args.current) (option_copied c.args.first) (option_copied c.args.second)) (subst_of c.args.step.now)
    c.subst.result.now c.plan_of.result c.in-Follows.draft c.gives.result c.in-Follows.is c.subst.ensures c.plan_of.ensures.plan c.gives.ensures

pub returns-in-Tidies : goal.returns-in-Tidies
returns-in-Tidies c =
    plan_tidied (StepOk c.args.step.now (option_copied c.args.current) (option_copied c.args.first) (option_copied c.args.second)) (subst_of c.args.step.now)
    c.plan_of.result c.in-Tidies.clause c.tidied.result c.in-Tidies.is (c.plan_of.ensures.tidies c.in-Tidies.clause c.in-Tidies.is) c.plan_of.ensures.plan c.tidied.ensures
