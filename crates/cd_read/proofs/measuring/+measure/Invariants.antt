use Rattle.std.proofs.Common.{◌≡◌, ◌+◌, ◌-◌, ◌≤◌, sum_by, map, take}
use Rattle.cd_term.specs.Terms.{greatest}
use Rattle.cd_read.specs.Meaning.{depth_of}
use Rattle.cd_parse.specs.Trees.{size_of}
use Rattle.cd_read.proofs.measuring.+measure.Given as goal

abbrev pub invariant-loop-arg : goal.invariant-loop-arg
invariant-loop-arg l = record {
  total_is : l.total ≡ 1 + sum_by size_of (take l.arg-index l.arg-items);
  few : l.total ≤ l.symbols;
  flat : greatest (map depth_of (take l.arg-index l.arg-items)) ≤ l.levels - 1;
}
