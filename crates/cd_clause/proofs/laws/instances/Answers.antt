use Rattle.cd_clause.proofs.SoundnessLemmas.{instance_holds}
use Rattle.cd_clause.proofs.laws.instances.Goals as goal

pub returns : goal.returns
returns c = instance_holds
