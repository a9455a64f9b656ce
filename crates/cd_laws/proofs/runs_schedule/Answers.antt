use Rattle.cd_laws.proofs.Schedule.{runs_schedule}
use Rattle.cd_laws.proofs.runs_schedule.Goals as goal

pub returns : goal.returns
returns c = runs_schedule
