use Rattle.cd_acts.specs.View.{local_of}
use Rattle.cd_acts.proofs.Acts.{rewrites}
use Rattle.cd_acts.proofs.state.State.rewrite.Goals as goal

pub returns-clause-does : goal.returns-clause-does
returns-clause-does c = λ p time.
    rw (c.new.ensures, c.next_unit-self.ensures, c.in_ok-push_front.ensures.items)
    (rewrites c.args.order.now (local_of c.args.self.now) c.args.by c.args.r c.take_first-item.result c.in_ok-item.item c.take_first-item.new.pending.items c.requires.may c.take_first-item.ensures c.in_ok-item.ensures p time)
