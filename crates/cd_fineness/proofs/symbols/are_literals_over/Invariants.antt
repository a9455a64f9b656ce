use Rattle.std.proofs.Common.{◌↔◌, drop}
use Rattle.cd_clause.specs.Over.{LiteralsOver}
use Rattle.cd_fineness.specs.Over.{symbols_in}
use Rattle.cd_fineness.proofs.symbols.are_literals_over.Given as goal

abbrev pub invariant-loop-literal : goal.invariant-loop-literal
invariant-loop-literal l = LiteralsOver (symbols_in l.symbols) l.literals ↔ LiteralsOver (symbols_in l.symbols) (drop l.literal-index l.literals)
