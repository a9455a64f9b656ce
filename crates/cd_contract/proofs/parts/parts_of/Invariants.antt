use Rattle.cd_contract.specs.Parts.{Lacks, AreSmall}
use Rattle.cd_rewrite.specs.Walks.{NoLiteralBefore}
use Rattle.cd_contract.proofs.parts.parts_of.Given as goal

abbrev pub invariant-loop-literal : goal.invariant-loop-literal
invariant-loop-literal l = record {
  all : NoLiteralBefore (Lacks l.parts.items) l.literal-items l.literal-index;
  small : AreSmall l.parts.items;
}
