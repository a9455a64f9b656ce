use Rattle.std.proofs.Common.{◌≡◌, length, take}
use Rattle.cd_parse.proofs.word.filled.Given as goal

abbrev pub invariant-loop-i : goal.invariant-loop-i
invariant-loop-i l = (length l.all ≡ 14) × (take l.i l.all ≡ take l.i l.bytes)
