use Rattle.cd_clause.proofs.Deciding.{same_atoms_decide, tautologies_decide, bounds_decide}
use Rattle.cd_clause.proofs.laws.decisions.Goals as goal

pub returns-clause-atoms : goal.returns-clause-atoms
returns-clause-atoms c = same_atoms_decide

pub returns-clause-tautologies : goal.returns-clause-tautologies
returns-clause-tautologies c = tautologies_decide

pub returns-clause-bounds : goal.returns-clause-bounds
returns-clause-bounds c = bounds_decide
