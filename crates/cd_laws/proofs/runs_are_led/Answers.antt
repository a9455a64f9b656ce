use Rattle.cd_laws.proofs.Rooted.{runs_led}
use Rattle.cd_laws.proofs.runs_are_led.Goals as goal

pub returns : goal.returns
returns c = runs_led
