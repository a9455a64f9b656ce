use Rattle.cd_kbo.proofs.Greaters.{greater}
use Rattle.cd_kbo.proofs.laws.decisions.Goals as goal

pub returns : goal.returns
returns c = greater
