use Rattle.cd_alone.proofs.Runs.{alone_lawful}
use Rattle.cd_alone.proofs.alone_runs_are_lawful.Goals as goal

pub returns : goal.returns
returns c = alone_lawful
