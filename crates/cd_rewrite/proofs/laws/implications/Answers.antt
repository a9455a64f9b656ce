use Rattle.cd_rewrite.proofs.Sound.{reducts_imply}
use Rattle.cd_rewrite.proofs.laws.implications.Goals as goal

pub returns : goal.returns
returns c = reducts_imply
