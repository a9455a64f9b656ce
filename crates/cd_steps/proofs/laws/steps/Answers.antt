use Rattle.cd_steps.proofs.Soundness.{steps_are_sound}
use Rattle.cd_steps.proofs.Reversing.{steps_are_reversible}
use Rattle.cd_steps.proofs.Unique.{steps_give_one}
use Rattle.cd_steps.proofs.laws.steps.Goals as goal

pub returns-clause-sound : goal.returns-clause-sound
returns-clause-sound c = steps_are_sound

pub returns-clause-reversible : goal.returns-clause-reversible
returns-clause-reversible c = steps_are_reversible

pub returns-clause-one : goal.returns-clause-one
returns-clause-one c = steps_give_one
