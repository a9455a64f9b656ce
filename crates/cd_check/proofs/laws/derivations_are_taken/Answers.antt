use Rattle.cd_check.proofs.Cuts.{derivation_taken}
use Rattle.cd_check.proofs.laws.derivations_are_taken.Goals as goal

pub returns : goal.returns
returns c = derivation_taken
