use Rattle.cd_peer.proofs.Firsts.{forced_named}
use Rattle.cd_replay.proofs.prospects.prospect_of.Goals as goal

pub rewriting_by-requires-clause-rewriter : goal.rewriting_by-requires-clause-rewriter
rewriting_by-requires-clause-rewriter c = forced_named c.args.order.now c.args.state.now.known c.args.item.now c.in-Some.by c.requires.forced c.in-Some.is
