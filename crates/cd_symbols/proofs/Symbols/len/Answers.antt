use Rattle.std.proofs.Common.{subst}
use Rattle.cd_symbols.specs.Symbol.{AreDistinct}
use Rattle.cd_symbols.specs.contracts.KeyPartialEq.TheImpl.{eq-value}
use Rattle.cd_symbols.proofs.KeyLemmas.{same_key}
use Rattle.cd_symbols.proofs.TableLemmas.{distinct_table}
use Rattle.cd_symbols.proofs.Symbols.len.Goals as goal

pub returns-clause-distinct : goal.returns-clause-distinct
returns-clause-distinct c =
    subst AreDistinct c.self.view_is
    (distinct_table c.self.inside.texts.keys c.len-texts.ensures.unique c.self.inside.keys.keys eq-value.it same_key c.len.ensures.unique c.self.invariant.1)
