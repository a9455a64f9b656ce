use Rattle.cd_subsume.proofs.Deciding.{subsumption_decides}
use Rattle.cd_subsume.proofs.laws.decisions.Goals as goal

pub returns : goal.returns
returns c = subsumption_decides
