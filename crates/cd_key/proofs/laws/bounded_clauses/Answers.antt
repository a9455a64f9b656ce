use Rattle.cd_key.proofs.BoundLemmas.{bounded_clauses}
use Rattle.cd_key.proofs.laws.bounded_clauses.Goals as goal

pub returns : goal.returns
returns c = bounded_clauses
