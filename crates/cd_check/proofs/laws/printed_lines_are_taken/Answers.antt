use Rattle.cd_check.proofs.Cuts.{line_taken}
use Rattle.cd_check.proofs.laws.printed_lines_are_taken.Goals as goal

pub returns : goal.returns
returns c = line_taken
