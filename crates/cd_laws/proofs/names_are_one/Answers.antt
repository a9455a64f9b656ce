use Rattle.cd_laws.proofs.Final.{names_are_one}
use Rattle.cd_laws.proofs.names_are_one.Goals as goal

pub returns : goal.returns
returns c = names_are_one
