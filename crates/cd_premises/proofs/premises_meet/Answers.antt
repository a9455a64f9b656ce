use Rattle.cd_premises.proofs.Whole.{premises_meet}
use Rattle.cd_premises.proofs.premises_meet.Goals as goal

pub returns : goal.returns
returns c = premises_meet
