use Rattle.cd_infer.proofs.Usable.{tidy_clauses_are_usable}
use Rattle.cd_infer.proofs.laws.usable.Goals as goal

pub returns : goal.returns
returns c = tidy_clauses_are_usable
