use Rattle.cd_world.proofs.Once.{schedules_are_one}
use Rattle.cd_world.proofs.laws.schedules_are_one.Goals as goal

pub returns : goal.returns
returns c = schedules_are_one
