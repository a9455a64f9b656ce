use Rattle.std.proofs.Common.{subst}
use Rattle.cd_acts.specs.View.{local_of}
use Rattle.cd_peer.specs.Choices.{IsChoice}
use Rattle.cd_peer.specs.declared.choosing.Choice.{Choice}
use Rattle.cd_peer.proofs.making.make.Goals as goal

pub reject-letters-requires-clause-may : goal.reject-letters-requires-clause-may
reject-letters-requires-clause-may c =
    (let x = subst (λ (choice : Choice). IsChoice c.args.order.now c.requires.choice.0 (local_of c.args.state.now) choice) c.in-Reject.is c.requires.choice.1 in
    (c.args.order.now, c.requires.choice.0, x.1))
