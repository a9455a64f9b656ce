use Rattle.std.proofs.Common.{◌≡◌}
use Rattle.cd_verdict.specs.Settled.{AreAll}
use Rattle.aquarius_threads.proofs.bells.the_first_peer_that_declares_is_named.Given as goal

abbrev pub invariant-loop-peer : goal.invariant-loop-peer
invariant-loop-peer g l = AreAll l.bell l.seats × (l.bell.peers ≡ 3)
