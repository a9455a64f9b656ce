use Rattle.cd_line.proofs.Capped.{lines_are_read_again}
use Rattle.cd_line.proofs.laws.lines_are_read_again.Goals as goal

pub returns : goal.returns
returns c = lines_are_read_again
