use Rattle.cd_clause.proofs.RenumberLemmas.{renumbering_one_to_one, renumbered_in_order}
use Rattle.cd_clause.proofs.laws.renumbering.Goals as goal

pub returns-clause-one_to_one : goal.returns-clause-one_to_one
returns-clause-one_to_one c = renumbering_one_to_one

pub returns-clause-in_order : goal.returns-clause-in_order
returns-clause-in_order c = renumbered_in_order
