use Rattle.cd_world.proofs.Draws.{schedules_end}
use Rattle.cd_world.proofs.laws.schedules_end.Goals as goal

pub returns : goal.returns
returns c = schedules_end
