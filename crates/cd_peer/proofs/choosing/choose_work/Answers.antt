use Rattle.std.proofs.Common.{sym}
use Rattle.cd_acts.specs.View.{local_of}
use Rattle.cd_peer.proofs.Firsts.{none_first}
use Rattle.cd_peer.proofs.choosing.choose_work.Goals as goal

pub choose_item-requires-clause-there : goal.choose_item-requires-clause-there
choose_item-requires-clause-there c = sym c.in-Some.ensures

pub choose_rest-requires-clause-pending : goal.choose_rest-requires-clause-pending
choose_rest-requires-clause-pending c = none_first (local_of c.args.state.now).pending c.in-None.ensures
