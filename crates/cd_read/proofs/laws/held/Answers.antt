use Rattle.cd_read.proofs.Held.{fault_told, held_readings, whole_told}
use Rattle.cd_read.proofs.laws.held.Goals as goal

pub returns-clause-readings : goal.returns-clause-readings
returns-clause-readings c = held_readings

pub returns-clause-whole : goal.returns-clause-whole
returns-clause-whole c = whole_told

pub returns-clause-faults : goal.returns-clause-faults
returns-clause-faults c = fault_told
