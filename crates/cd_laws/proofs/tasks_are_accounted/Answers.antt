use Rattle.cd_laws.proofs.Final.{tasks_are_accounted}
use Rattle.cd_laws.proofs.tasks_are_accounted.Goals as goal

pub returns : goal.returns
returns c = tasks_are_accounted
