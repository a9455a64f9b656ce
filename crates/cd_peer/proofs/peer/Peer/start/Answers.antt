use Rattle.cd_peer.proofs.Whole.{whole_start}
use Rattle.cd_peer.specs.Plain.{plain}
use Rattle.cd_peer.proofs.peer.Peer.start.Goals as goal

pub invariant_of-result : goal.invariant_of-result
invariant_of-result c = λ e.
    whole_start plain (c.premises_meet.ensures plain) (c.starts_go.ensures plain) c.args.problem.now c.args.me c.args.peers c.args.policy c.args.limits c.in_ok-state.state
    c.requires.fit c.requires.some c.in_ok-state.ensures.indexed c.in_ok-state.ensures.start
