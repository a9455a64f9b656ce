use Rattle.std.proofs.Common.{◌≡◌, ◌+◌, ◌-◌, ◌≤◌, sum_by, map, take}
use Rattle.cd_term.specs.Terms.{size_of, depth_of, greatest, applied}
use Rattle.cd_term.proofs.substitution.+measure_applied.Given as goal

abbrev pub invariant-loop-arg : goal.invariant-loop-arg
invariant-loop-arg l = record {
  total_is : l.total ≡ 1 + sum_by size_of (take l.arg-index (map (applied l.s) l.arg-items));
  few : l.total ≤ l.symbols;
  flat : greatest (map depth_of (take l.arg-index (map (applied l.s) l.arg-items))) ≤ l.levels - 1;
}
