use Rattle.cd_rewrite.proofs.Agree.{reducts_agree}
use Rattle.cd_rewrite.proofs.Fitting.{tidy_substitutions_agree}
use Rattle.cd_rewrite.proofs.Deciding.{reducts_decide}
use Rattle.cd_rewrite.proofs.laws.decisions.Goals as goal

pub returns-clause-agree : goal.returns-clause-agree
returns-clause-agree c = reducts_agree

pub returns-clause-substitutions : goal.returns-clause-substitutions
returns-clause-substitutions c = tidy_substitutions_agree

pub returns-clause-decide : goal.returns-clause-decide
returns-clause-decide c = reducts_decide
