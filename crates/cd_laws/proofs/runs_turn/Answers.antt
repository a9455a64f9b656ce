use Rattle.cd_laws.proofs.Turns.{runs_turn}
use Rattle.cd_laws.proofs.runs_turn.Goals as goal

pub returns : goal.returns
returns c = runs_turn
