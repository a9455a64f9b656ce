use Rattle.cd_contract.specs.Shapes.{mix}
use Rattle.cd_contract.proofs.shapes.mixed.Goals as goal

pub returns-clause-value : goal.returns-clause-value
unfolding mix
returns-clause-value c = cc
