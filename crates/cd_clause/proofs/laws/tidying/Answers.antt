use Rattle.cd_clause.proofs.TidyLemmas.{tidy_holds}
use Rattle.cd_clause.proofs.laws.tidying.Goals as goal

pub returns : goal.returns
returns c = tidy_holds
