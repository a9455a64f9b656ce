use Rattle.cd_acts.proofs.Answering.{alone_is}
use Rattle.cd_acts.proofs.rules.solo.Goals as goal

pub returns : goal.returns
returns c = alone_is c.args.order.now c.args.name c.args.c.now c.solo.result c.in_ok-found.found c.bounds.ensures.solo c.solo.ensures c.in_ok-found.ensures
