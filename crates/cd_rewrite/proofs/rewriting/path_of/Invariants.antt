use Rattle.std.proofs.Common.{◌≡◌, take, reverse}
use Rattle.cd_rewrite.proofs.rewriting.path_of.Given as goal

abbrev pub invariant-loop-i : goal.invariant-loop-i
invariant-loop-i l = l.path ≡ take l.i (reverse l.way)
