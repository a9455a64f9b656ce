use Rattle.cd_world.proofs.Draws.{draws_are_picks}
use Rattle.cd_world.proofs.laws.draws_are_picks.Goals as goal

pub returns : goal.returns
returns c = draws_are_picks
