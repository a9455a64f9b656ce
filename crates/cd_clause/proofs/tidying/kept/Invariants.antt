use Rattle.std.proofs.Common.{take}
use Rattle.cd_clause.specs.Codes.{AreMet}
use Rattle.cd_clause.proofs.KeptLemmas.{Completes}
use Rattle.cd_clause.proofs.tidying.kept.Given as goal

abbrev pub invariant-loop-literal : goal.invariant-loop-literal
invariant-loop-literal l = record {
  kept : Completes l.literals l.literal-index l.values;
  met : AreMet l.met.keys (take l.literal-index l.literals);
}
