use Rattle.cd_steps.proofs.Soundness.{factorings_are_sound}
use Rattle.cd_steps.proofs.Regular.{factorings_are_regular}
use Rattle.cd_steps.proofs.laws.factoring.Goals as goal

pub returns-clause-sound : goal.returns-clause-sound
returns-clause-sound c = factorings_are_sound

pub returns-clause-regular : goal.returns-clause-regular
returns-clause-regular c = factorings_are_regular
