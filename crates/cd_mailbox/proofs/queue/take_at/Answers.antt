use Rattle.cd_mailbox.specs.Known.{seen}
use Rattle.cd_mailbox.proofs.Steps.{takes, learns, has_own}
use Rattle.cd_mailbox.proofs.queue.take_at.Goals as goal

pub pop_as-requires-clause-rule : goal.pop_as-requires-clause-rule
pop_as-requires-clause-rule g c = (
  takes g.L.Addressed.sender g.L.Addressed.receiver c.args.pass.now.id (seen c.args.pass.now) (has_own (seen c.args.pass.now).owner (seen c.args.pass.now) c.requires.owner),
  learns g.L.Addressed.sender g.L.Addressed.receiver c.args.pass.now.id (seen c.args.pass.now),
)
