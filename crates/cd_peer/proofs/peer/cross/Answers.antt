use denote.Param.Send.{sendable}
use Rattle.cd_peer.proofs.Crossing.{peer_moves}
use Rattle.cd_peer.proofs.peer.cross.Goals as goal

pub moves-requires-send-T : goal.moves-requires-send-T
moves-requires-send-T c κs = search (peer_moves, sendable)
