use Rattle.cd_term.proofs.SizeLaws.{levels}
use Rattle.cd_term.proofs.laws.levels.Goals as goal

pub returns : goal.returns
returns c = levels
