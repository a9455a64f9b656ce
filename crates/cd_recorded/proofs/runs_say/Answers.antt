use Rattle.cd_recorded.proofs.Says.{runs_say}
use Rattle.cd_recorded.proofs.runs_say.Goals as goal

pub returns : goal.returns
returns c = runs_say
