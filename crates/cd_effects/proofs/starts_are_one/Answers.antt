use Rattle.cd_effects.proofs.Starts.{starts_once}
use Rattle.cd_effects.proofs.starts_are_one.Goals as goal

pub returns : goal.returns
returns c = starts_once
