use Rattle.cd_mailbox.specs.Known.{seen}
use Rattle.cd_mailbox.proofs.Steps.{posts}
use Rattle.cd_mailbox.proofs.queue.post_at.Goals as goal

pub push_as-requires-clause-rule : goal.push_as-requires-clause-rule
push_as-requires-clause-rule g c = λ n. posts g.L.Addressed.sender g.L.Addressed.receiver n c.args.pass.now.id (seen c.args.pass.now) c.args.letter c.requires.sender c.requires.receiver
