use Rattle.cd_alone.proofs.Runs.{events_keep_going}
use Rattle.cd_alone.proofs.events_keep_going.Goals as goal

pub returns : goal.returns
returns c = events_keep_going
