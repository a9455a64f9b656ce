use Rattle.cd_machine.proofs.Waves.{waves_are_tested}
use Rattle.cd_machine.proofs.waves_are_tested.Goals as goal

pub returns : goal.returns
returns c = waves_are_tested
