use Rattle.cd_mailbox.specs.Known.{seen}
use Rattle.cd_mailbox.proofs.Steps.{gives}
use Rattle.cd_mailbox.proofs.queue.give_at.Goals as goal

pub another-requires-clause-rule : goal.another-requires-clause-rule
another-requires-clause-rule g c = let d = c.requires.numbers in gives g.L.Addressed.sender g.L.Addressed.receiver c.args.pass.now.id d.peers d.owner d.from d.more (seen c.args.pass.now) d.is
