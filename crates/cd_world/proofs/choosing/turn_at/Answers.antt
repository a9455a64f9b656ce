use Rattle.std.proofs.Common.{◌≡◌, List, subst}
use Rattle.std.specs.Prelude.{slice_get}
use Rattle.std.proofs.lemmas.List.{drop_all}
use Rattle.cd_peer.specs.Peers.{PeerView}
use Rattle.cd_world.specs.Schedule.{turns_from}
use Rattle.cd_world.specs.Worlds.{locals_of}
use Rattle.cd_world.proofs.Picks.{some_at}
use Rattle.cd_world.proofs.choosing.turn_at.Goals as goal

pub unreachable-requires : goal.unreachable-requires
unreachable-requires c =
    some_at (turns_from c.args.tokens 0 (locals_of c.args.peers.now)) c.args.k
    (subst (λ (vs : List PeerView). slice_get (turns_from c.args.tokens c.loop-peer.peer-index (locals_of vs)) c.loop-peer.left ≡ slice_get (turns_from c.args.tokens 0 (locals_of c.args.peers.now)) c.args.k)
    (drop_all c.loop-peer.peer-index c.args.peers.now c.loop-peer-test.false) c.loop-peer.invariant.so_far) c.requires.within
