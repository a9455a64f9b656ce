use Rattle.cd_key.proofs.FallLemmas.{literals_fall, keys_fall}
use Rattle.cd_key.proofs.laws.falling.Goals as goal

pub returns-clause-literals : goal.returns-clause-literals
returns-clause-literals c = literals_fall

pub returns-clause-keys : goal.returns-clause-keys
returns-clause-keys c = keys_fall
