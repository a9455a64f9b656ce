use Rattle.cd_alone.proofs.Project.{runs_alone}
use Rattle.cd_alone.proofs.runs_are_alone.Goals as goal

pub returns : goal.returns
returns c = runs_alone
