use Rattle.std.proofs.Common.{subst}
use Rattle.cd_acts.specs.Answers.{IsReduction}
use Rattle.cd_acts.specs.View.{local_of}
use Rattle.cd_acts.specs.declared.rules.Reduction.{Reduction}
use Rattle.cd_peer.proofs.Firsts.{rewriter_there}
use Rattle.cd_replay.proofs.Choosing.{too_large}
use Rattle.cd_replay.proofs.prospects.rewriting_by.Goals as goal

pub returns-in-TooLarge : goal.returns-in-TooLarge
returns-in-TooLarge c =
    too_large c.args.order.now (local_of c.args.state.now) c.args.item.now c.in-Some.equation.now
    (rewriter_there c.args.order.now c.args.state.now.known c.args.item.now c.args.by c.requires.rewriter c.in-Some.equation.now c.in-Some.ensures.entry)
    (subst (λ (r : Reduction). IsReduction c.args.order.now c.in-Some.equation.now.entry.clause c.args.item.now.clause r) c.in-TooLarge.is c.in_ok-reduction.ensures)
