use Rattle.cd_clause.proofs.TautologyLemmas.{tautology_else}
use Rattle.cd_clause.proofs.tautology.is_tautology.Goals as goal

pub returns-else-has_trivial : goal.returns-else-has_trivial
returns-else-has_trivial c =
    tautology_else _ _ _ _ c.if-has_trivial.ensures c.as_slice.ensures c.as_slice-else-has_trivial.ensures c.has_opposites.ensures
