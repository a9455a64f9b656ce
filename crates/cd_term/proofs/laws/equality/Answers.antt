use Rattle.cd_term.proofs.Deciding.{terms_decide}
use Rattle.cd_term.proofs.laws.equality.Goals as goal

pub returns : goal.returns
returns c = terms_decide
