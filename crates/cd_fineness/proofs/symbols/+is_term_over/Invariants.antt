use Rattle.std.proofs.Common.{◌↔◌, drop}
use Rattle.cd_term.specs.Symbols.{AreOver}
use Rattle.cd_fineness.specs.Over.{symbols_in}
use Rattle.cd_fineness.proofs.symbols.+is_term_over.Given as goal

abbrev pub invariant-loop-arg : goal.invariant-loop-arg
invariant-loop-arg l = AreOver (symbols_in l.symbols) l.arg-items ↔ AreOver (symbols_in l.symbols) (drop l.arg-index l.arg-items)
