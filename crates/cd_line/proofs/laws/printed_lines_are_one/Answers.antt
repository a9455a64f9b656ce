use Rattle.cd_line.proofs.Capped.{printed_lines_are_one}
use Rattle.cd_line.proofs.laws.printed_lines_are_one.Goals as goal

pub returns : goal.returns
returns c = printed_lines_are_one
