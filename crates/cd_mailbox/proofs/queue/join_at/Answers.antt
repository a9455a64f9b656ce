use Rattle.cd_mailbox.specs.Known.{seen}
use Rattle.cd_mailbox.proofs.Steps.{joins}
use Rattle.cd_mailbox.proofs.queue.join_at.Goals as goal

pub absorb-requires-clause-rule : goal.absorb-requires-clause-rule
absorb-requires-clause-rule g c =
    let j = c.requires.numbers in
    joins g.L.Addressed.sender g.L.Addressed.receiver c.args.pass.now.id (seen c.args.pass.now) c.args.other.id (seen c.args.other) j.first j.second j.peers j.owner
