use Rattle.cd_check.proofs.Cuts.{lines_are_cut}
use Rattle.cd_check.proofs.laws.lines_are_cut.Goals as goal

pub returns : goal.returns
returns c = lines_are_cut
