use Rattle.cd_check.proofs.Verdicts.{verdicts_are_one}
use Rattle.cd_check.proofs.laws.verdicts_are_one.Goals as goal

pub returns : goal.returns
returns c = verdicts_are_one
