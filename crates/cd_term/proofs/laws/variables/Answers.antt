use Rattle.cd_term.proofs.SizeLaws.{bound_of-variables}
use Rattle.cd_term.proofs.VariableLaws.{occurs-variables}
use Rattle.cd_term.proofs.laws.variables.Goals as goal

pub returns : goal.returns
returns c = λ t. (occurs-variables t, bound_of-variables t)
