use Rattle.std.proofs.Common.{◌≡◌, false, take}
use Rattle.std.specs.List.{list_any}
use Rattle.cd_clause.specs.Truth.{literal_true}
use Rattle.cd_meaning.specs.Interps.{interp_of, point_of}
use Rattle.cd_meaning.proofs.truth.is_true.Given as goal

abbrev pub invariant-loop-literal : goal.invariant-loop-literal
invariant-loop-literal l = list_any (literal_true (interp_of l.size l.tables) (point_of l.point)) (take l.literal-index l.literals) ≡ false
