use Rattle.cd_laws.proofs.Final.{lone_peers_send_nothing}
use Rattle.cd_laws.proofs.lone_peers_send_nothing.Goals as goal

pub returns : goal.returns
returns c = lone_peers_send_nothing
