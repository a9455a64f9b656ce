use Rattle.cd_unify.proofs.direct.+followed.Given as goal

abbrev pub decreases-followed : goal.decreases-followed
decreases-followed l = l.levels
