use Rattle.std.proofs.Common.{sym, subst}
use Rattle.cd_acts.specs.View.{local_of}
use Rattle.cd_kbo.specs.declared.order.Order.{Order}
use Rattle.cd_peer.specs.Turns.{HasTurned}
use Rattle.cd_peer.specs.Whole.{IsWhole}
use Rattle.cd_peer.proofs.Plain.{plain_is}
use Rattle.cd_peer.proofs.turning.turn.Goals as goal

pub turn_by-requires-clause-whole : goal.turn_by-requires-clause-whole
turn_by-requires-clause-whole c =
    subst (λ (o : Order). IsWhole o c.args.problem.now c.args.state.now) (sym (plain_is c.plain-order.result c.plain-order.ensures.weights c.plain-order.ensures.ranks c.plain-order.ensures.select)) c.requires.whole

pub returns-clause-whole : goal.returns-clause-whole
returns-clause-whole c =
    subst (λ (o : Order). IsWhole o c.args.problem.now c.turn_by.new.state) (plain_is c.plain-order.result c.plain-order.ensures.weights c.plain-order.ensures.ranks c.plain-order.ensures.select) c.in_ok-did.ensures.whole

pub returns-clause-ok : goal.returns-clause-ok
returns-clause-ok c =
    subst (λ (o : Order). HasTurned o c.args.problem.now (local_of c.args.state.now) (local_of c.turn_by.new.state) c.args.out.now c.turn_by.new.out c.in_ok-did.did)
    (plain_is c.plain-order.result c.plain-order.ensures.weights c.plain-order.ensures.ranks c.plain-order.ensures.select) c.in_ok-did.ensures.ok
