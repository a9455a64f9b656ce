use Rattle.cd_read.proofs.Answered.{readings_single, need_single, readings_or_need}
use Rattle.cd_read.proofs.laws.one_answer.Goals as goal

pub returns-clause-readings : goal.returns-clause-readings
returns-clause-readings c = readings_single

pub returns-clause-needs : goal.returns-clause-needs
returns-clause-needs c = need_single

pub returns-clause-apart : goal.returns-clause-apart
returns-clause-apart c = readings_or_need
