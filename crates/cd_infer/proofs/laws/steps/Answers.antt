use Rattle.cd_infer.proofs.InstanceLemmas.{solos_are_steps, pairs_are_steps}
use Rattle.cd_infer.proofs.laws.steps.Goals as goal

pub returns-clause-solo : goal.returns-clause-solo
returns-clause-solo c = solos_are_steps

pub returns-clause-pair : goal.returns-clause-pair
returns-clause-pair c = pairs_are_steps
