use Rattle.std.proofs.Common.{◌∙◌, ap}
use Rattle.cd_mailbox.specs.Views.{named}
use Rattle.cd_mailbox.specs.Known.{seen}
use Rattle.cd_mailbox.proofs.Steps.{names}
use Rattle.cd_mailbox.proofs.queue.name.Goals as goal

pub another-requires-clause-rule : goal.another-requires-clause-rule
another-requires-clause-rule g c = names g.L.Addressed.sender g.L.Addressed.receiver c.loop-number.pass.id c.loop-number.number (seen c.loop-number.pass) c.loop-number.invariant.1

pub loop-number-preserved : goal.loop-number-preserved
loop-number-preserved g c = (c.another.ensures.queue.0, c.another.ensures.rule.0 ∙ ap named c.loop-number.invariant.1)
