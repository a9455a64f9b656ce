use Rattle.std.proofs.Common.{◌≡◌, ◌≤◌, sum_by, map, take}
use Rattle.cd_term.specs.Terms.{greatest}
use Rattle.cd_read.specs.Meaning.{atom_depth}
use Rattle.cd_parse.specs.Trees.{atom_size}
use Rattle.cd_read.proofs.measuring.is_within.Given as goal

abbrev pub invariant-loop-literal : goal.invariant-loop-literal
invariant-loop-literal l = record {
  total_is : l.total ≡ sum_by (λ x. atom_size x.atom) (take l.literal-index l.literals);
  few : l.total ≤ 65535;
  flat : greatest (map (λ x. atom_depth x.atom) (take l.literal-index l.literals)) ≤ 1000;
}
