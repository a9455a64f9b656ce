use Rattle.cd_infer.proofs.InstanceLemmas.{solos_are_within, pairs_are_within}
use Rattle.cd_infer.proofs.RunLemmas.{within_decides}
use Rattle.cd_infer.proofs.laws.bounds.Goals as goal

pub returns-clause-solo : goal.returns-clause-solo
returns-clause-solo c = solos_are_within

pub returns-clause-pair : goal.returns-clause-pair
returns-clause-pair c = pairs_are_within

pub returns-clause-decide : goal.returns-clause-decide
returns-clause-decide c = within_decides
