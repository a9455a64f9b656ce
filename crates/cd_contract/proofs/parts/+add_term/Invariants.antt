use Rattle.cd_term.specs.Terms.{size_of}
use Rattle.cd_contract.specs.Parts.{Lacks, Adds}
use Rattle.cd_rewrite.proofs.FirstPaths.{NoneBefore}
use Rattle.cd_contract.proofs.parts.+add_term.Given as goal

abbrev pub invariant-loop-arg : goal.invariant-loop-arg
invariant-loop-arg l = record {
  adds : Adds l.initial.parts.items l.parts.items;
  all : NoneBefore (Lacks l.parts.items) l.args l.arg-index;
}

abbrev pub decreases-add_term : goal.decreases-add_term
decreases-add_term l = size_of l.t.now
