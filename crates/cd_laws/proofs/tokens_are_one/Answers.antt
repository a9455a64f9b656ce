use Rattle.cd_laws.proofs.Final.{tokens_are_one}
use Rattle.cd_laws.proofs.tokens_are_one.Goals as goal

pub returns : goal.returns
returns c = tokens_are_one
