use Rattle.std.proofs.Common.{◌∙◌, ◌+◌, true, [], ap}
use Rattle.cd_mailbox.specs.Views.{grown, view}
use Rattle.cd_mailbox.specs.Known.{seen}
use Rattle.cd_mailbox.proofs.Parts.{parts_more}
use Rattle.cd_mailbox.proofs.Steps.{grows}
use Rattle.cd_mailbox.proofs.queue.grow.Goals as goal

pub another-requires-clause-rule : goal.another-requires-clause-rule
another-requires-clause-rule g c = grows g.L.Addressed.sender g.L.Addressed.receiver c.loop-number.pass.id c.args.owner c.loop-number.number (seen c.loop-number.pass) c.loop-number.invariant.1

pub loop-number-preserved : goal.loop-number-preserved
loop-number-preserved g c = (c.another.ensures.queue.0, c.another.ensures.rule.0 ∙ ap grown c.loop-number.invariant.1 ∙ ap (λ ps. view true (c.loop-number.number + 1) c.args.owner ps []) (parts_more c.loop-number.number))
