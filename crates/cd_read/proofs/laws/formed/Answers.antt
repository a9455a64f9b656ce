use Rattle.cd_read.proofs.Read.{problem_formed, problem_bounded}
use Rattle.cd_read.proofs.laws.formed.Goals as goal

pub returns-clause-formed : goal.returns-clause-formed
returns-clause-formed c = problem_formed

pub returns-clause-bounded : goal.returns-clause-bounded
returns-clause-bounded c = problem_bounded
