use Rattle.std.proofs.Common.{sym}
use Rattle.cd_acts.specs.View.{local_of}
use Rattle.cd_peer.proofs.Firsts.{none_first}
use Rattle.cd_peer.proofs.choosing.choose_rest.Goals as goal

pub choose_token-requires-clause-owed : goal.choose_token-requires-clause-owed
choose_token-requires-clause-owed c = none_first (local_of c.args.state.now).owed c.in-None.ensures.first

pub choose_task-requires-clause-there : goal.choose_task-requires-clause-there
choose_task-requires-clause-there c = sym c.in-Some.ensures.first

pub returns-in-None : goal.returns-in-None
returns-in-None c = λ p. c.choose_token.ensures c.args.order.now p
