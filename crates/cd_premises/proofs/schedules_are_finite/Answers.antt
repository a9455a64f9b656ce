use Rattle.cd_premises.proofs.Runs.{schedules_are_finite}
use Rattle.cd_premises.proofs.schedules_are_finite.Goals as goal

pub returns : goal.returns
returns c = schedules_are_finite
