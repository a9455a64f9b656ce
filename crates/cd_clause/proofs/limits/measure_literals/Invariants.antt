use Rattle.std.proofs.Common.{◌≡◌, ◌≤◌, sum_by, map, take}
use Rattle.cd_term.specs.Terms.{greatest, applied}
use Rattle.cd_clause.specs.Clauses.{literal_size, literal_depth, literals_changed}
use Rattle.cd_clause.proofs.limits.measure_literals.Given as goal

abbrev pub invariant-loop-literal : goal.invariant-loop-literal
invariant-loop-literal l = record {
  total_is : l.total ≡ sum_by literal_size (take l.literal-index (literals_changed (applied l.s) l.literals));
  few : l.total ≤ l.symbols;
  flat : greatest (map literal_depth (take l.literal-index (literals_changed (applied l.s) l.literals))) ≤ l.levels;
}
