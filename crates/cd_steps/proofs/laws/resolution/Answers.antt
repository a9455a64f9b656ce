use Rattle.cd_steps.proofs.Soundness.{resolutions_are_sound}
use Rattle.cd_steps.proofs.Regular.{resolutions_are_regular}
use Rattle.cd_steps.proofs.laws.resolution.Goals as goal

pub returns-clause-sound : goal.returns-clause-sound
returns-clause-sound c = resolutions_are_sound

pub returns-clause-regular : goal.returns-clause-regular
returns-clause-regular c = resolutions_are_regular
