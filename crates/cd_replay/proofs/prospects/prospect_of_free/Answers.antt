use Rattle.std.proofs.Common.{subst}
use Rattle.cd_acts.specs.Answers.{IsStanding}
use Rattle.cd_acts.specs.declared.rules.Standing.{Standing}
use Rattle.cd_peer.proofs.Firsts.{reduced_named}
use Rattle.cd_replay.proofs.prospects.prospect_of_free.Goals as goal

pub rewriting_by-requires-clause-rewriter : goal.rewriting_by-requires-clause-rewriter
rewriting_by-requires-clause-rewriter c =
    reduced_named c.args.order.now c.args.state.now.known c.args.item.now c.in-Reduced.by c.requires.sensible.once c.requires.free
    (subst (λ (s : Standing). IsStanding c.args.order.now c.args.item.now.clause c.args.state.now.known s) c.in-Reduced.is (c.in_ok-standing.ensures c.args.state.now.known c.requires.indexed.held))

pub returns-in-Subsumed : goal.returns-in-Subsumed
returns-in-Subsumed c =
    c.ending_of.ensures c.args.order.now
    (subst (λ (s : Standing). IsStanding c.args.order.now c.args.item.now.clause c.args.state.now.known s) c.in-Subsumed.is (c.in_ok-standing.ensures c.args.state.now.known c.requires.indexed.held)).0

pub returns-in-Free : goal.returns-in-Free
returns-in-Free c =
    c.ending_of-in-Free.ensures c.args.order.now
    (subst (λ (s : Standing). IsStanding c.args.order.now c.args.item.now.clause c.args.state.now.known s) c.in-Free.is (c.in_ok-standing.ensures c.args.state.now.known c.requires.indexed.held)).0
