use Rattle.cd_infer.proofs.InstanceLemmas.{solos_conclude_once, pairs_conclude_once}
use Rattle.cd_infer.proofs.laws.one_list.Goals as goal

pub returns-clause-solo : goal.returns-clause-solo
returns-clause-solo c = solos_conclude_once

pub returns-clause-pair : goal.returns-clause-pair
returns-clause-pair c = pairs_conclude_once
