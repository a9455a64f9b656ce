use Rattle.cd_infer.proofs.Existing.{solos_exist, pairs_exist}
use Rattle.cd_infer.proofs.laws.lists.Goals as goal

pub returns-clause-solo : goal.returns-clause-solo
returns-clause-solo c = solos_exist

pub returns-clause-pair : goal.returns-clause-pair
returns-clause-pair c = pairs_exist
