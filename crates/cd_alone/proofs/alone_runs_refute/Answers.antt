use Rattle.cd_alone.proofs.Refuting.{alone_refutes}
use Rattle.cd_alone.proofs.alone_runs_refute.Goals as goal

pub returns : goal.returns
returns c = alone_refutes
