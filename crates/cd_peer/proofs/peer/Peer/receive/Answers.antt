use Rattle.std.proofs.Common.{ap, subst, ◌∙◌}
use Rattle.cd_acts.specs.View.{local_of}
use Rattle.cd_peer.specs.Peers.{PeerView}
use Rattle.cd_peer.specs.Plain.{plain}
use Rattle.cd_peer.specs.Turns.{HasReceived}
use Rattle.cd_peer.proofs.Whole.{going_received}
use Rattle.cd_peer.proofs.peer.Peer.receive.Goals as goal

pub invariant_of-self : goal.invariant_of-self
invariant_of-self c = λ e. record {
  indexed = c.in-Ok.ensures.indexed;
  going =
      going_received plain (c.premises_meet.ensures plain) (c.events_keep_going.ensures plain) c.self.inside.problem.now (local_of c.self.inside.state) (local_of c.receive.new.state) c.args.letter
      (c.in-Ok.ensures.ok plain c.self.inside.problem.now) (c.self.invariant e).going;
}

pub returns-in-Ok-clause-ok : goal.returns-in-Ok-clause-ok
returns-in-Ok-clause-ok c = record {
  receives = subst (λ (v : PeerView). HasReceived plain v.problem v.local (local_of c.receive.new.state) c.args.letter) c.self.view_is (c.in-Ok.ensures.ok plain c.self.inside.problem.now);
  outgoing = ap (λ (v : PeerView). v.outgoing) c.self.view_is;
  problem = ap (λ (v : PeerView). v.problem) c.self.view_is;
  fallen = ap (λ (v : PeerView). v.fallen) c.self.view_is ∙ c.requires.standing;
}
