use Rattle.cd_steps.proofs.Soundness.{reflexivities_are_sound}
use Rattle.cd_steps.proofs.Regular.{reflexivities_are_regular}
use Rattle.cd_steps.proofs.laws.reflexivity.Goals as goal

pub returns-clause-sound : goal.returns-clause-sound
returns-clause-sound c = reflexivities_are_sound

pub returns-clause-regular : goal.returns-clause-regular
returns-clause-regular c = reflexivities_are_regular
