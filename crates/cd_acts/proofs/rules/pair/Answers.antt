use Rattle.cd_acts.proofs.Answering.{together_is}
use Rattle.cd_acts.proofs.rules.pair.Goals as goal

pub returns : goal.returns
returns c = together_is c.args.order.now c.args.a_name c.args.a.now c.args.b_name c.args.b.now c.pair.result c.in_ok-found.found c.bounds.ensures.pair c.pair.ensures c.in_ok-found.ensures
