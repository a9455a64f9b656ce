use Rattle.cd_steps.proofs.Registries.{right_steps_stay_right, right_steps_are_sound, right_steps_give_one}
use Rattle.cd_steps.proofs.laws.registries.Goals as goal

pub returns-clause-grown : goal.returns-clause-grown
returns-clause-grown c = right_steps_stay_right

pub returns-clause-sound : goal.returns-clause-sound
returns-clause-sound c = right_steps_are_sound

pub returns-clause-one : goal.returns-clause-one
returns-clause-one c = right_steps_give_one
