use Rattle.cd_term.proofs.PathLaws.{subterm-substituted, replaced-substituted}
use Rattle.cd_term.proofs.laws.subterms.Goals as goal

pub returns : goal.returns
returns c = λ g path new t u. (subterm-substituted g path t u, replaced-substituted g path new t u)
