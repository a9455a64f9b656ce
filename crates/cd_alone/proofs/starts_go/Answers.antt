use Rattle.cd_alone.proofs.Runs.{starts_go}
use Rattle.cd_alone.proofs.starts_go.Goals as goal

pub returns : goal.returns
returns c = starts_go
