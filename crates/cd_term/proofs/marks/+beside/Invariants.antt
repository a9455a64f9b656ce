use Rattle.std.proofs.Common.{◌≡◌, length}
use Rattle.cd_term.proofs.MarkLemmas.{IsLeft}
use Rattle.cd_term.proofs.marks.+beside.Given as goal

abbrev pub invariant-loop-i : goal.invariant-loop-i
invariant-loop-i l = (length l.args ≡ length l.others) × IsLeft l.n l.args l.others l.i
