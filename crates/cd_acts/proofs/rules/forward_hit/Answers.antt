use Rattle.std.proofs.Common.{List, Some, subst}
use Rattle.cd_contract.specs.declared.held.Entry.{Entry}
use Rattle.cd_contract.specs.Hits.{IsForward}
use Rattle.cd_acts.proofs.Answering.{forward_is}
use Rattle.cd_acts.proofs.rules.forward_hit.Goals as goal

pub returns : goal.returns
returns c = λ es same.
    forward_is c.args.order.now c.args.r.now es c.in_ok-hit.hit
    (subst (λ (held : List Entry). IsForward c.args.order.now c.args.r.now.clause (Some c.args.r.now.name) held c.in_ok-hit.hit) same c.in_ok-hit.ensures)
