use Rattle.std.proofs.Common.{◌≡◌, map, take, length}
use Rattle.cd_term.specs.Terms.{marked}
use Rattle.cd_term.proofs.marks.same_places_all.Given as goal

abbrev pub invariant-loop-i : goal.invariant-loop-i
invariant-loop-i l = (length l.ts ≡ length l.us) × (map (marked l.k) (take l.i l.ts) ≡ map (marked l.m) (take l.i l.us))
