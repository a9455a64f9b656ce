use Rattle.cd_effects.proofs.Effects.{effects}
use Rattle.cd_effects.proofs.effects_are_one.Goals as goal

pub returns : goal.returns
returns c = effects
