use Rattle.cd_build.proofs.Refuting.{derivations_refute}
use Rattle.cd_build.proofs.laws.derivations_refute.Goals as goal

pub returns : goal.returns
returns c = derivations_refute
