use Rattle.std.proofs.Common.{◌≡◌, All}
use Rattle.crossbeam_queue.specs.SegTies.{IsSegPassOf}
use Rattle.cd_mailbox.specs.Views.{after_takes}
use Rattle.cd_mailbox.specs.Rule.{IsFor}
use Rattle.cd_mailbox.specs.Known.{seen}
use Rattle.cd_mailbox.proofs.queue.take_all.Given as goal

abbrev pub invariant-loop : goal.invariant-loop
invariant-loop g l =
    (goal.iterator-loop g).can_next l.iterator' × (goal.iterator-loop g).is_finite l.iterator'
    × IsSegPassOf l.queue l.pass × (seen l.pass ≡ after_takes (seen l.fn.pass) l.left.items)
    × All (IsFor g.L.Addressed.sender g.L.Addressed.receiver (seen l.fn.pass).peers (seen l.fn.pass).owner) l.left.items
