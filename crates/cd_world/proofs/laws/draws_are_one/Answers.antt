use Rattle.cd_world.proofs.Draws.{draws_are_one}
use Rattle.cd_world.proofs.laws.draws_are_one.Goals as goal

pub returns : goal.returns
returns c = draws_are_one
