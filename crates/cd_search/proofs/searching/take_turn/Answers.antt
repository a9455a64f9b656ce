use Rattle.cd_search.proofs.Advancing.{goes}
use Rattle.cd_search.proofs.searching.take_turn.Goals as goal

pub returns-clause-stays : goal.returns-clause-stays
returns-clause-stays c = λ policy limits s. (goes policy limits c.args.peer.now _ _ s c.journal_len-short.ensures c.requires.running c.in_ok-_turned.ensures.ok).searching

pub returns-clause-problem : goal.returns-clause-problem
returns-clause-problem c =
    let s = c.requires.searching in
    (goes s.0 s.1 c.args.peer.now _ _ s.2 c.journal_len-short.ensures c.requires.running c.in_ok-_turned.ensures.ok).problem

pub returns-clause-nearer : goal.returns-clause-nearer
returns-clause-nearer c =
    let s = c.requires.searching in
    (goes s.0 s.1 c.args.peer.now _ _ s.2 c.journal_len-short.ensures c.requires.running c.in_ok-_turned.ensures.ok).nearer
