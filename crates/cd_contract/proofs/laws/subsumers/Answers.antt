use Rattle.cd_contract.proofs.Repeating.{subsumer_keys}
use Rattle.cd_contract.proofs.laws.subsumers.Goals as goal

pub returns : goal.returns
returns c = subsumer_keys
