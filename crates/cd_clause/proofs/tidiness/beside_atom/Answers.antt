use Rattle.cd_clause.proofs.AlikeLemmas.{left_side_found, right_side_found}
use Rattle.cd_clause.proofs.tidiness.beside_atom.Goals as goal

pub returns-in-Some : goal.returns-in-Some
returns-in-Some c = left_side_found _ _ _ _ _ _ _ _ c.in-Equal-Equal.is-0 c.in-Equal-Equal.is-1 c.in-Some.ensures

pub returns-in-None : goal.returns-in-None
returns-in-None c =
    right_side_found _ _ _ _ _ _ _ _ c.in-Equal-Equal.is-0 c.in-Equal-Equal.is-1 c.in-None.ensures c.beside-in-None.ensures
