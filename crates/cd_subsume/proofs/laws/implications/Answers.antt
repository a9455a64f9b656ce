use Rattle.cd_subsume.proofs.Sound.{subsumes_holds}
use Rattle.cd_subsume.proofs.laws.implications.Goals as goal

pub returns : goal.returns
returns c = λ i d c' ok by h. subsumes_holds i d c' ok by h
