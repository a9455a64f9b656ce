use Rattle.cd_premises.proofs.Formed.{formed_inputs_fit}
use Rattle.cd_premises.proofs.formed_inputs_fit.Goals as goal

pub returns : goal.returns
returns c = formed_inputs_fit
