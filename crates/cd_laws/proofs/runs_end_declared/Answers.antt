use Rattle.cd_laws.proofs.Final.{end_declared}
use Rattle.cd_laws.proofs.runs_end_declared.Goals as goal

pub returns : goal.returns
returns c = end_declared
