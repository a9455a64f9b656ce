use Rattle.std.proofs.Common.{◌∙◌}
use Rattle.cd_acts.proofs.Names.{arrived_is}
use Rattle.cd_acts.proofs.state.State.is_known.Goals as goal

pub returns : goal.returns
returns c = c.has_arrived.ensures ∙ arrived_is c.args.self.now.me c.args.n c.args.self.now.tasks.arrivals c.args.self.now.known c.requires.names
