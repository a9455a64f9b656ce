use Rattle.cd_laws.proofs.Measure.{runs_fall}
use Rattle.cd_laws.proofs.runs_fall.Goals as goal

pub returns : goal.returns
returns c = runs_fall
