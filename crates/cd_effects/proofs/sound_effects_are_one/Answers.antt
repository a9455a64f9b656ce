use Rattle.cd_effects.proofs.Effects.{sound_effects}
use Rattle.cd_effects.proofs.sound_effects_are_one.Goals as goal

pub returns : goal.returns
returns c = sound_effects
