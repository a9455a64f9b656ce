use Rattle.cd_checktop.proofs.Passing.{accepted_pass}
use Rattle.cd_checktop.proofs.laws.accepted_texts_pass.Goals as goal

pub returns : goal.returns
returns c = accepted_pass (record {
  readings = c.held.ensures.readings;
  whole = c.held.ensures.whole;
  faults = c.held.ensures.faults;
  formed = c.formed.ensures.formed;
  bounded = c.formed.ensures.bounded;
  verdicts = c.verdicts_are_one.ensures;
})
