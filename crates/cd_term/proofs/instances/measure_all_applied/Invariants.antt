use Rattle.std.proofs.Common.{◌≡◌, ◌≤◌, sum_by, map, take}
use Rattle.cd_term.specs.Terms.{size_of, depth_of, greatest, applied}
use Rattle.cd_term.proofs.instances.measure_all_applied.Given as goal

abbrev pub invariant-loop-t : goal.invariant-loop-t
invariant-loop-t l = record {
  total_is : l.total ≡ sum_by size_of (take l.t-index (map (applied l.s) l.ts));
  few : l.total ≤ l.symbols;
  flat : greatest (map depth_of (take l.t-index (map (applied l.s) l.ts))) ≤ l.levels;
}
