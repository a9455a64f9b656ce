use Rattle.std.proofs.Common.{◌↔◌, drop}
use Rattle.cd_term.specs.Symbols.{AreOver}
use Rattle.cd_fineness.specs.Over.{symbols_in}
use Rattle.cd_fineness.proofs.symbols.are_terms_over.Given as goal

abbrev pub invariant-loop-t : goal.invariant-loop-t
invariant-loop-t l = AreOver (symbols_in l.symbols) l.terms ↔ AreOver (symbols_in l.symbols) (drop l.t-index l.terms)
