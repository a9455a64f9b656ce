use Rattle.cd_acts.specs.View.{local_of}
use Rattle.cd_peer.specs.Plain.{plain}
use Rattle.cd_peer.proofs.Whole.{sensible_of}
use Rattle.cd_peer.proofs.peer.Peer.look.Goals as goal

pub look-requires-clause-sensible : goal.look-requires-clause-sensible
look-requires-clause-sensible c = sensible_of c.usable.ensures plain c.self.inside.problem.now (local_of c.self.inside.state) (c.self.invariant c.if-self.false).going

pub look-requires-clause-indexed : goal.look-requires-clause-indexed
look-requires-clause-indexed c = (c.self.invariant c.if-self.false).indexed
