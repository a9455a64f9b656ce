use Rattle.cd_clause.proofs.ClauseTerms.{equation_noted}
use Rattle.cd_clause.proofs.renumbering.note_atom.Goals as goal

pub returns-in_ok-note-in-Equal-2 : goal.returns-in_ok-note-in-Equal-2
returns-in_ok-note-in-Equal-2 c =
    equation_noted _ _ _ _ _ _ c.in-Equal.is c.in_ok-note-in-Equal.ensures c.in_ok-note-in-Equal-2.ensures
