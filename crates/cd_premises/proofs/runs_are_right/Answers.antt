use Rattle.cd_premises.proofs.Runs.{runs_are_right}
use Rattle.cd_premises.proofs.runs_are_right.Goals as goal

pub returns : goal.returns
returns c = runs_are_right
