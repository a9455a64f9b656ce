use Rattle.cd_term.proofs.SizeLaws.{renamed_sizes}
use Rattle.cd_term.proofs.VariableLaws.{renumbered-numbered, renumbered-bound, renumbered-back, renumbered-places}
use Rattle.cd_term.proofs.laws.renamings.Goals as goal

pub returns-clause-sizes : goal.returns-clause-sizes
returns-clause-sizes c = renamed_sizes

pub returns-clause-inverse : goal.returns-clause-inverse
returns-clause-inverse c = λ ts. (renumbered-numbered ts, renumbered-bound ts, renumbered-back ts, renumbered-places ts)
