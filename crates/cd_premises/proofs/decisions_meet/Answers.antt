use Rattle.cd_premises.proofs.Decisions.{decisions_meet}
use Rattle.cd_premises.proofs.decisions_meet.Goals as goal

pub returns : goal.returns
returns c = decisions_meet
