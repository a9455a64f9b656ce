use Rattle.cd_recorded.proofs.Runs.{chosen_are_runs}
use Rattle.cd_recorded.proofs.chosen_are_runs.Goals as goal

pub returns : goal.returns
returns c = chosen_are_runs
