use Rattle.std.proofs.Common.{◌≡◌, true, []}
use Rattle.crossbeam_queue.specs.SegTies.{IsSegPassOf}
use Rattle.cd_mailbox.specs.Views.{view}
use Rattle.cd_mailbox.specs.Known.{seen}
use Rattle.cd_mailbox.proofs.queue.name.Given as goal

abbrev pub invariant-loop-number : goal.invariant-loop-number
invariant-loop-number g l = IsSegPassOf l.queue l.pass × (seen l.pass ≡ view true 0 l.number [] [])
