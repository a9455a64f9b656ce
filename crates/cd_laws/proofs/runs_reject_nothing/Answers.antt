use Rattle.cd_laws.proofs.Final.{nothing_rejected}
use Rattle.cd_laws.proofs.runs_reject_nothing.Goals as goal

pub returns : goal.returns
returns c = nothing_rejected
