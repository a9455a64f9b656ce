use Rattle.cd_laws.proofs.Final.{carried_clauses_keep_models}
use Rattle.cd_laws.proofs.carried_clauses_keep_models.Goals as goal

pub returns : goal.returns
returns c = carried_clauses_keep_models
