use Rattle.cd_acts.proofs.Names.{new_arrived, place_arrived}
use Rattle.cd_acts.proofs.state.has_arrived.Goals as goal

pub returns-in-None : goal.returns-in-None
returns-in-None c = new_arrived c.args.n c.args.tasks.now.arrivals c.in-None.ensures

pub returns-in-Some : goal.returns-in-Some
returns-in-Some c = place_arrived c.args.n c.args.tasks.now.arrivals c.in-Some._place c.in-Some.ensures
