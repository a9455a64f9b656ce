use Rattle.cd_term.proofs.SizeLaws.{size_of-substituted, depth_of-substituted, variables_of-substituted}
use Rattle.cd_term.proofs.laws.after_substitution.Goals as goal

pub returns-clause-size : goal.returns-clause-size
returns-clause-size c = size_of-substituted

pub returns-clause-depth : goal.returns-clause-depth
returns-clause-depth c = depth_of-substituted

pub returns-clause-variables : goal.returns-clause-variables
returns-clause-variables c = variables_of-substituted
