use Rattle.cd_steps.proofs.Soundness.{equality_factorings_are_sound}
use Rattle.cd_steps.proofs.Regular.{equality_factorings_are_regular}
use Rattle.cd_steps.proofs.laws.equality_factoring.Goals as goal

pub returns-clause-sound : goal.returns-clause-sound
returns-clause-sound c = equality_factorings_are_sound

pub returns-clause-regular : goal.returns-clause-regular
returns-clause-regular c = equality_factorings_are_regular
