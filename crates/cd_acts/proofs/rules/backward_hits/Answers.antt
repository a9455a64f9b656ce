use Rattle.std.proofs.Common.{List, subst}
use Rattle.cd_contract.specs.declared.held.Entry.{Entry}
use Rattle.cd_contract.specs.Hits.{AreStruck}
use Rattle.cd_acts.proofs.Answering.{struck_among, struck_hits}
use Rattle.cd_acts.proofs.rules.backward_hits.Goals as goal

pub returns-clause-hits : goal.returns-clause-hits
returns-clause-hits c = λ es same once.
    struck_hits c.args.order.now c.args.r.now es c.in_ok-hits.hits once
    (subst (λ (held : List Entry). AreStruck c.args.order.now c.args.r.now.clause c.args.r.now.name held c.in_ok-hits.hits) same c.in_ok-hits.ensures)

pub returns-clause-among : goal.returns-clause-among
returns-clause-among c = λ es same.
    struck_among c.args.order.now c.args.r.now es c.in_ok-hits.hits
    (subst (λ (held : List Entry). AreStruck c.args.order.now c.args.r.now.clause c.args.r.now.name held c.in_ok-hits.hits) same c.in_ok-hits.ensures)
