use Rattle.cd_world.proofs.Times.{times_are_few}
use Rattle.cd_world.proofs.laws.times_are_few.Goals as goal

pub returns : goal.returns
returns c = times_are_few
