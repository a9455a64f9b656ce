use Rattle.cd_premises.proofs.Runs.{alone_runs_are_right}
use Rattle.cd_premises.proofs.alone_runs_are_right.Goals as goal

pub returns : goal.returns
returns c = alone_runs_are_right
