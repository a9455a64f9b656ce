use Rattle.cd_premises.proofs.Tests.{tests_meet}
use Rattle.cd_premises.proofs.tests_meet.Goals as goal

pub returns : goal.returns
returns c = tests_meet
