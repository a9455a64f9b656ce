use Rattle.std.proofs.Common.{List, arith, length, length-append, ◌∷◌, [], sym, ap, ◌∙◌, subst}
use Rattle.cd_peer.specs.Peers.{PeerView}
use Rattle.cd_world.specs.Worlds.{ArePeers}
use Rattle.cd_world.proofs.Worlds.{start_more}
use Rattle.cd_world.proofs.world.start_peers.Goals as goal

pub loop-me-preserved : goal.loop-me-preserved
loop-me-preserved c = record {
  many = ap length c.in_ok-push.ensures.items ∙ (let m = length-append c.loop-me.all.items (c.in_ok-peer.peer ∷ []) in let n = c.loop-me.invariant.many in omega (arith, m, n));
  each = subst (λ (vs : List PeerView). ArePeers c.args.problem.now c.args.peers c.args.policy c.args.limits vs) (sym c.in_ok-push.ensures.items)
      (start_more c.args.problem.now c.args.peers c.args.policy c.args.limits c.loop-me.all.items c.loop-me.me c.in_ok-peer.peer c.loop-me.invariant.many c.loop-me.invariant.each c.in_ok-peer.ensures);
}
