use Rattle.std.proofs.Common.{ap}
use Rattle.std.specs.Option.{option_copied}
use Rattle.cd_acts.proofs.Names.{found_new, found_none, found_some}
use Rattle.cd_acts.proofs.state.entry_in.Goals as goal

pub returns-in-None : goal.returns-in-None
returns-in-None c = found_new c.requires.names.0 c.args.n c.args.tasks.now.arrivals c.args.known.now c.requires.names.1 c.in-None.ensures

pub returns-in-None-get : goal.returns-in-None-get
returns-in-None-get c =
    found_none c.requires.names.0 c.args.n c.args.tasks.now.arrivals c.args.known.now c.in-Some.place (option_copied c.get.result) c.requires.names.1 c.in-Some.ensures c.get.ensures.value
    (ap option_copied c.in-None-get.is)

pub returns-in-Some-get : goal.returns-in-Some-get
returns-in-Some-get c =
    found_some c.requires.names.0 c.args.n c.args.tasks.now.arrivals c.args.known.now c.in-Some.place (option_copied c.get.result) c.in-Some-get.e.now c.requires.names.1 c.in-Some.ensures c.get.ensures.value
    (ap option_copied c.in-Some-get.is) c.requires.once
