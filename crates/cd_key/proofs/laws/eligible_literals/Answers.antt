use Rattle.cd_key.proofs.EligibleLiterals.{some_literal_is_eligible, eligibility_decides}
use Rattle.cd_key.proofs.laws.eligible_literals.Goals as goal

pub returns-clause-there : goal.returns-clause-there
returns-clause-there c = some_literal_is_eligible

pub returns-clause-decide : goal.returns-clause-decide
returns-clause-decide c = eligibility_decides
