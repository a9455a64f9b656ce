use Rattle.std.proofs.Common.{◌≡◌, ◌≤◌, sum_by, map, take}
use Rattle.cd_term.specs.Terms.{greatest}
use Rattle.cd_read.specs.Meaning.{depth_of}
use Rattle.cd_parse.specs.Trees.{size_of}
use Rattle.cd_read.proofs.measuring.measure_all.Given as goal

abbrev pub invariant-loop-t : goal.invariant-loop-t
invariant-loop-t l = record {
  total_is : l.total ≡ sum_by size_of (take l.t-index l.ts);
  few : l.total ≤ l.symbols;
  flat : greatest (map depth_of (take l.t-index l.ts)) ≤ l.levels;
}
