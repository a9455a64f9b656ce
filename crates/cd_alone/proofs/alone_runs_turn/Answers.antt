use Rattle.cd_alone.proofs.Turning.{alone_turn}
use Rattle.cd_alone.proofs.alone_runs_turn.Goals as goal

pub returns : goal.returns
returns c = alone_turn
