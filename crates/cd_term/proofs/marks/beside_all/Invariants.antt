use Rattle.std.proofs.Common.{◌≡◌, length}
use Rattle.cd_term.proofs.MarkLemmas.{IsLeft}
use Rattle.cd_term.proofs.marks.beside_all.Given as goal

abbrev pub invariant-loop-i : goal.invariant-loop-i
invariant-loop-i l = (length l.ts ≡ length l.us) × IsLeft l.n l.ts l.us l.i
