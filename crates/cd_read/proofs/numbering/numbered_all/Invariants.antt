use Rattle.std.proofs.Common.{take}
use Rattle.cd_read.specs.Meaning.{GivesTerms}
use Rattle.cd_read.proofs.numbering.numbered_all.Given as goal

abbrev pub invariant-loop-tree : goal.invariant-loop-tree
invariant-loop-tree l = record {
  gives : GivesTerms l.initial.symbols l.initial.variables (take l.tree-index l.trees) l.terms l.symbols l.variables;
}
