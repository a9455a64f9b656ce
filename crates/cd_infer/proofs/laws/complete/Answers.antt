use Rattle.cd_infer.proofs.InstanceLemmas.{solos_are_listed, pairs_are_listed}
use Rattle.cd_infer.proofs.laws.complete.Goals as goal

pub returns-clause-solo : goal.returns-clause-solo
returns-clause-solo c = solos_are_listed

pub returns-clause-pair : goal.returns-clause-pair
returns-clause-pair c = pairs_are_listed
