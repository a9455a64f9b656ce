use Rattle.cd_mailbox.specs.Known.{seen}
use Rattle.cd_mailbox.proofs.Steps.{begins, seals}
use Rattle.cd_mailbox.proofs.queue.open_at.Goals as goal

pub with_rule-requires : goal.with_rule-requires
with_rule-requires g c = begins g.L.Addressed.sender g.L.Addressed.receiver

pub another-requires-clause-rule : goal.another-requires-clause-rule
another-requires-clause-rule g c = seals g.L.Addressed.sender g.L.Addressed.receiver c.grow.new.pass.id c.args.owner c.args.peers (seen c.grow.new.pass) c.grow.ensures.1
