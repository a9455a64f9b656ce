use Rattle.cd_clause.proofs.TidyLemmas.{tautology_holds}
use Rattle.cd_clause.proofs.laws.tautologies.Goals as goal

pub returns : goal.returns
returns c = tautology_holds
