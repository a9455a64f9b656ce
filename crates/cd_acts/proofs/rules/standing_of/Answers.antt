use Rattle.std.proofs.Common.{List, None, Option, Some, subst}
use Rattle.cd_contract.specs.declared.held.Entry.{Entry}
use Rattle.cd_contract.specs.declared.held.Hit.{Hit}
use Rattle.cd_contract.specs.Hits.{IsForward}
use Rattle.cd_acts.specs.Answers.{IsSubsumedStanding}
use Rattle.cd_acts.proofs.Answering.{standing_by, standing_free, standing_reduced}
use Rattle.cd_acts.proofs.rules.standing_of.Goals as goal

pub returns-in-None : goal.returns-in-None
returns-in-None c = λ es same.
    standing_free c.args.order.now c.args.c.now c.subsumers.ensures es
    (subst (λ (held : List Entry). IsForward c.args.order.now c.args.c.now None held None) same
    (subst (λ (o : Option Hit). IsForward c.args.order.now c.args.c.now None c.args.held.now o) c.in-None.is c.in_ok-found.ensures))

pub returns-in-Reduces : goal.returns-in-Reduces
returns-in-Reduces c = λ es same.
    standing_reduced c.args.order.now c.args.c.now c.subsumers.ensures es c.in-Some.hit c.in-Reduces.is
    (subst (λ (held : List Entry). IsForward c.args.order.now c.args.c.now None held (Some c.in-Some.hit)) same
    (subst (λ (o : Option Hit). IsForward c.args.order.now c.args.c.now None c.args.held.now o) c.in-Some.is c.in_ok-found.ensures))

pub returns-in_ok-standing-in-Subsumes : goal.returns-in_ok-standing-in-Subsumes
returns-in_ok-standing-in-Subsumes c = λ es same.
    standing_by c.args.order.now c.args.c.now c.subsumers.ensures es c.in-Some.hit c.in_ok-standing-in-Subsumes.standing c.in-Subsumes.is
    (subst (λ (held : List Entry). IsForward c.args.order.now c.args.c.now None held (Some c.in-Some.hit)) same
    (subst (λ (o : Option Hit). IsForward c.args.order.now c.args.c.now None c.args.held.now o) c.in-Some.is c.in_ok-found.ensures))
    (subst (λ (held : List Entry). IsSubsumedStanding c.args.order.now c.args.c.now held c.in-Some.hit.by c.in_ok-standing-in-Subsumes.standing) same c.in_ok-standing-in-Subsumes.ensures)
