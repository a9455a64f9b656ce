use Rattle.cd_rewrite.proofs.Fitting.{reducts_are_steps, reducts_are_fit}
use Rattle.cd_rewrite.proofs.laws.steps.Goals as goal

pub returns-clause-steps : goal.returns-clause-steps
returns-clause-steps c = reducts_are_steps

pub returns-clause-fit : goal.returns-clause-fit
returns-clause-fit c = reducts_are_fit
