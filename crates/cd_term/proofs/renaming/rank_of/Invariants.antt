use Rattle.std.proofs.Common.{◌≡◌, ◌+◌, drop}
use Rattle.cd_term.specs.Terms.{rank}
use Rattle.cd_term.proofs.renaming.rank_of.Given as goal

abbrev pub invariant-loop-i : goal.invariant-loop-i
invariant-loop-i l = l.i + rank (drop l.i l.order) l.k ≡ rank l.order l.k
