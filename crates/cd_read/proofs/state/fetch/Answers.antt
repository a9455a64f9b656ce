use Rattle.cd_read.proofs.Spending.{spends_one, spends_past}
use Rattle.cd_read.proofs.state.fetch.Goals as goal

pub returns-then-size-left-clause-spends : goal.returns-then-size-left-clause-spends
returns-then-size-left-clause-spends g c = spends_past _ _ _ _ _ _ c.new-bytes.ensures c.in-Ok.ensures.gives c.requires.used

pub returns-clause-spends : goal.returns-clause-spends
returns-clause-spends g c = spends_one _ _ _ _ _ _ _ _ c.new-bytes.ensures c.in-Ok.ensures.gives c.len-size.ensures.value
