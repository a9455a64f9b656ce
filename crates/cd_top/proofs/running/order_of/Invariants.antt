use Rattle.std.proofs.Common.{◌≡◌, replicate}
use Rattle.cd_top.proofs.running.order_of.Given as goal

abbrev pub invariant-loop-event : goal.invariant-loop-event
invariant-loop-event l = l.order ≡ replicate l._event-index 0
