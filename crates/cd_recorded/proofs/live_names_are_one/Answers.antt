use Rattle.cd_recorded.proofs.Names.{live_names_are_one}
use Rattle.cd_recorded.proofs.live_names_are_one.Goals as goal

pub returns : goal.returns
returns c = live_names_are_one
