use Rattle.cd_term.proofs.PathLaws.{size_of-replaced, depth_of-replaced, subterm-replaced, replaced-same}
use Rattle.cd_term.proofs.laws.after_replacement.Goals as goal

pub returns-clause-size : goal.returns-clause-size
returns-clause-size c = size_of-replaced

pub returns-clause-depth : goal.returns-clause-depth
returns-clause-depth c = depth_of-replaced

pub returns-clause-found : goal.returns-clause-found
returns-clause-found c = λ path new t u. (subterm-replaced path new t u, replaced-same path t u)
