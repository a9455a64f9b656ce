use Rattle.std.proofs.Common.{◌≡◌, map, take, length}
use Rattle.cd_term.specs.Terms.{marked}
use Rattle.cd_term.proofs.marks.+same_places.Given as goal

abbrev pub invariant-loop-i : goal.invariant-loop-i
invariant-loop-i l = (length l.args ≡ length l.others) × (map (marked l.k) (take l.i l.args) ≡ map (marked l.m) (take l.i l.others))
