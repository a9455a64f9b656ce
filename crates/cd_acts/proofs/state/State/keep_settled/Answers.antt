use Rattle.std.proofs.Common.{refl}
use Rattle.cd_acts.specs.View.{local_of}
use Rattle.cd_acts.proofs.Acts.{keeps_settled}
use Rattle.cd_acts.proofs.state.State.keep_settled.Goals as goal

pub returns-clause-does : goal.returns-clause-does
returns-clause-does c = λ p.
    rw c.new.ensures
    (keeps_settled c.args.order.now p (local_of c.args.self.now) (local_of c.settle.new.self) c.args.time c.args.outcome c.requires.may c.take_first-origin.result c.take_first-origin.new.pending.items c.requires.unnamed
    c.take_first-origin.ensures (rw c.in_ok-settle.ensures.state refl))
