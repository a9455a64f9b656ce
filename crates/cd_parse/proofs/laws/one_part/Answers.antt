use Rattle.cd_parse.proofs.OnePart.{part_single}
use Rattle.cd_parse.proofs.laws.one_part.Goals as goal

pub returns : goal.returns
returns c = part_single
