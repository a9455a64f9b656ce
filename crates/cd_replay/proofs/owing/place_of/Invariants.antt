use Rattle.std.proofs.Common.{◌≡◌}
use Rattle.cd_replay.proofs.Searching.{NoneBelow}
use Rattle.cd_replay.proofs.owing.place_of.Given as goal

abbrev pub invariant-loop-place : goal.invariant-loop-place
invariant-loop-place l = NoneBelow (λ u. u ≡ l.task) l.owed l.place
