use Rattle.cd_contract.specs.Parts.{Lacks, Adds}
use Rattle.cd_rewrite.proofs.FirstPaths.{NoneBefore}
use Rattle.cd_contract.proofs.parts.add_terms.Given as goal

abbrev pub invariant-loop-t : goal.invariant-loop-t
invariant-loop-t l = record {
  adds : Adds l.fn.parts.items l.parts.items;
  all : NoneBefore (Lacks l.parts.items) l.ts l.t-index;
}
