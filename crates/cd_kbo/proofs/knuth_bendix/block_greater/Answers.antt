use Rattle.std.proofs.Common.{ℕ, arith}
use Rattle.std.proofs.lemmas.List.{get_or-replicate}
use Rattle.cd_kbo.proofs.knuth_bendix.block_greater.Goals as goal

pub walk-requires-clause-room_left : goal.walk-requires-clause-room_left
walk-requires-clause-room_left c = λ k lt. omega (arith, get_or-replicate {A = ℕ} 16 k 0 0 lt, c.requires.left)

pub walk-requires-clause-room_right : goal.walk-requires-clause-room_right
walk-requires-clause-room_right c = λ k lt. omega (arith, get_or-replicate {A = ℕ} 16 k 0 0 lt, c.requires.right)
