use Rattle.cd_infer.proofs.RunLemmas.{solos_stay_over, pairs_stay_over}
use Rattle.cd_infer.proofs.laws.symbols.Goals as goal

pub returns-clause-solo : goal.returns-clause-solo
returns-clause-solo c = solos_stay_over

pub returns-clause-pair : goal.returns-clause-pair
returns-clause-pair c = pairs_stay_over
