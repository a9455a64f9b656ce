use Rattle.cd_premises.proofs.Decisions.{singles_meet}
use Rattle.cd_premises.proofs.singles_meet.Goals as goal

pub returns : goal.returns
returns c = singles_meet
