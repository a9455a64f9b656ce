use Rattle.cd_parse.proofs.OneMeaning.{one_meaning, no_front}
use Rattle.cd_parse.proofs.laws.one_statement.Goals as goal

pub returns-clause-agree : goal.returns-clause-agree
returns-clause-agree c = one_meaning

pub returns-clause-end : goal.returns-clause-end
returns-clause-end c = no_front
