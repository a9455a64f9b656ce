use Rattle.std.proofs.Common.{take}
use Rattle.cd_read.specs.Meaning.{GivesTerms}
use Rattle.cd_parse.specs.Trees.{size_of}
use Rattle.cd_read.proofs.numbering.+numbered.Given as goal

abbrev pub invariant-loop-arg : goal.invariant-loop-arg
invariant-loop-arg l = record {
  gives : GivesTerms l.initial.symbols l.initial.variables (take l.arg-index l.arg-items) l.terms l.symbols l.variables;
}

abbrev pub decreases-numbered : goal.decreases-numbered
decreases-numbered l = size_of l.tree.now
