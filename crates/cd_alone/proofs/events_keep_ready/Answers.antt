use Rattle.cd_alone.proofs.Runs.{events_keep_ready}
use Rattle.cd_alone.proofs.events_keep_ready.Goals as goal

pub returns : goal.returns
returns c = events_keep_ready
