use Rattle.std.proofs.Common.{◌≡◌, ◌<◌, ℕ}
use Rattle.std.specs.Prelude.{None}
use Rattle.cd_world.specs.Worlds.{peer_at}
use Rattle.cd_world.proofs.choosing.has_verdict.Given as goal

abbrev pub invariant-loop-q : goal.invariant-loop-q
invariant-loop-q l = (k : ℕ) → k < l.q → (peer_at l.peers k).local.verdict ≡ None
