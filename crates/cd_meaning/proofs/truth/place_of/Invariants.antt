use Rattle.std.proofs.Common.{◌≡◌, ◌^◌, ◌-◌, min, map, take}
use Rattle.cd_clause.specs.Truth.{value, place}
use Rattle.cd_meaning.specs.Interps.{interp_of, point_of}
use Rattle.cd_meaning.proofs.truth.place_of.Given as goal

abbrev pub invariant-loop-k : goal.invariant-loop-k
invariant-loop-k l = l.at ≡ min (place l.size (map (value (interp_of l.size l.tables) (point_of l.point)) (take l.k l.terms))) (2 ^ 64 - 1)
