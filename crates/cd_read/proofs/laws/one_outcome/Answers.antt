use Rattle.cd_read.proofs.Outcomes.{outcome_single}
use Rattle.cd_read.proofs.laws.one_outcome.Goals as goal

pub returns : goal.returns
returns c = outcome_single
