use Rattle.cd_laws.proofs.Final.{names_descend}
use Rattle.cd_laws.proofs.names_descend.Goals as goal

pub returns : goal.returns
returns c = names_descend
