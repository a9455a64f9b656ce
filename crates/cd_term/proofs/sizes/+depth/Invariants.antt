use Rattle.std.proofs.Common.{◌≡◌, ◌-◌, ◌^◌, min, map, take}
use Rattle.cd_term.specs.Terms.{depth_of, greatest}
use Rattle.cd_term.proofs.sizes.+depth.Given as goal

abbrev pub invariant-loop-arg : goal.invariant-loop-arg
invariant-loop-arg l = l.deepest ≡ min (greatest (map depth_of (take l.arg-index l.arg-items))) (2 ^ 64 - 1)
