use Rattle.cd_contract.proofs.ReductKeys.{reducts_fall, reducts_have_smaller_keys}
use Rattle.cd_contract.proofs.laws.reducts.Goals as goal

pub returns-clause-parts : goal.returns-clause-parts
returns-clause-parts c = reducts_fall

pub returns-clause-keys : goal.returns-clause-keys
returns-clause-keys c = reducts_have_smaller_keys
