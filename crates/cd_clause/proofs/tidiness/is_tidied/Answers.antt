use Rattle.std.proofs.Common.{subst}
use Rattle.cd_clause.specs.Tidiness.{IsClearFrom}
use Rattle.cd_clause.proofs.tidiness.is_tidied.Goals as goal

pub is_tidied_to-requires-clause-rest : goal.is_tidied_to-requires-clause-rest
is_tidied_to-requires-clause-rest c =
    subst (λ clear. IsClearFrom clear c.args.c.now.literals) c.if-clear-eq0.true
    (subst (IsClearFrom c.clear_from-clear.result) c.as_slice.ensures c.clear_from-clear.ensures)

pub is_tidied_marked-requires : goal.is_tidied_marked-requires
is_tidied_marked-requires c = subst (IsClearFrom c.clear_from-clear.result) c.as_slice.ensures c.clear_from-clear.ensures
