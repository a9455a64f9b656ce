use Rattle.cd_laws.proofs.Final.{peers_are_contracted}
use Rattle.cd_laws.proofs.peers_are_contracted.Goals as goal

pub returns : goal.returns
returns c = peers_are_contracted
