use Rattle.cd_term.proofs.PathLaws.{subterm-append}
use Rattle.cd_term.proofs.laws.paths.Goals as goal

pub returns : goal.returns
returns c = subterm-append
