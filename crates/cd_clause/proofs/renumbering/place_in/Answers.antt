use Rattle.std.proofs.Common.{◌∙◌}
use Rattle.cd_clause.proofs.OrderLemmas.{place_found, no_place}
use Rattle.cd_clause.proofs.renumbering.place_in.Goals as goal

pub returns-in-Some : goal.returns-in-Some
returns-in-Some c = place_found c.args.order.now.keys c.args.k c.in-Some.place c.in-Some.ensures.index

pub returns-in-None : goal.returns-in-None
returns-in-None c = c.len.ensures.len ∙ no_place c.args.order.now.keys c.args.k c.in-None.ensures.index
