use Rattle.cd_world.proofs.Draws.{schedules_are_chosen}
use Rattle.cd_world.proofs.laws.schedules_are_chosen.Goals as goal

pub returns : goal.returns
returns c = schedules_are_chosen
