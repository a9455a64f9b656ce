use Rattle.cd_laws.proofs.Schedule.{schedules_end}
use Rattle.cd_laws.proofs.schedules_end.Goals as goal

pub returns : goal.returns
returns c = schedules_end
