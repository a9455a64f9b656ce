use Rattle.cd_unify.proofs.direct.+occurs_at.Given as goal

abbrev pub decreases-occurs_at : goal.decreases-occurs_at
decreases-occurs_at l = l.levels
