use Rattle.cd_infer.proofs.RunLemmas.{solos_are_inferences, pairs_are_inferences}
use Rattle.cd_infer.proofs.laws.inferences.Goals as goal

pub returns-clause-solo : goal.returns-clause-solo
returns-clause-solo c = solos_are_inferences

pub returns-clause-pair : goal.returns-clause-pair
returns-clause-pair c = pairs_are_inferences
