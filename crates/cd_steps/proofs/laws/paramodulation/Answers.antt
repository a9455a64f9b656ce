use Rattle.cd_steps.proofs.Soundness.{paramodulations_are_sound}
use Rattle.cd_steps.proofs.Regular.{paramodulations_are_regular}
use Rattle.cd_steps.proofs.laws.paramodulation.Goals as goal

pub returns-clause-sound : goal.returns-clause-sound
returns-clause-sound c = paramodulations_are_sound

pub returns-clause-regular : goal.returns-clause-regular
returns-clause-regular c = paramodulations_are_regular
