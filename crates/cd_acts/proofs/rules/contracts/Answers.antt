use Rattle.cd_acts.proofs.Answering.{subsumption_holds}
use Rattle.cd_acts.proofs.rules.contracts.Goals as goal

pub returns-in-Some : goal.returns-in-Some
returns-in-Some c =
    let found = rw c.in-Some.is at c.in_ok-_subst-in-Subsumes.ensures in
    subsumption_holds c.args.order.now c.args.how c.args.d.now c.args.c.now c.in-Some._subst c.in-Subsumes.is found.1
