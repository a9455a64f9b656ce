use Rattle.cd_infer.proofs.PathOrder.{paths_are_symbols, atom_paths_are_symbols}
use Rattle.cd_infer.proofs.laws.paths.Goals as goal

pub returns-clause-of_term : goal.returns-clause-of_term
returns-clause-of_term c = paths_are_symbols

pub returns-clause-of_atom : goal.returns-clause-of_atom
returns-clause-of_atom c = atom_paths_are_symbols
