use Rattle.std.proofs.Common.{◌∙◌, ap, get_or}
use Rattle.cd_mailbox.proofs.Seats.{below_count}
use Rattle.cd_mailbox.proofs.Joining.{may_empty, empties_next}
use Rattle.cd_mailbox.proofs.closing.empty_all.Goals as goal

pub drain_at-requires-clause-owner : goal.drain_at-requires-clause-owner
drain_at-requires-clause-owner g c =
    may_empty g.L.Addressed.sender g.L.Addressed.receiver c.args.boxes.now c.args.seats.items c.loop-q.q c.loop-q.seats.items c.loop-q.left c.index_mut-seat.result.now c.requires.owners c.loop-q.invariant
    (below_count c.boxes.inside.queues.items c.args.boxes.now c.boxes.inside.queues.len c.len-q-end.result c.loop-q.q c.boxes.view_is c.boxes.inside.queues.ok.0 c.len-q-end.ensures c.loop-q-test.true) c.index_mut-seat.ensures.value

pub loop-q-preserved : goal.loop-q-preserved
loop-q-preserved g c =
    empties_next g.L.Addressed.sender g.L.Addressed.receiver c.args.boxes.now c.args.seats.items c.loop-q.q c.loop-q.seats.items c.loop-q.left c.push.new.self c.index_mut-seat.result.now c.drain_at.new.pass c.index.result.now c.in_ok-letters.letters
    c.loop-q.invariant (below_count c.boxes.inside.queues.items c.args.boxes.now c.boxes.inside.queues.len c.len-q-end.result c.loop-q.q c.boxes.view_is c.boxes.inside.queues.ok.0 c.len-q-end.ensures c.loop-q-test.true)
    c.index_mut-seat.ensures.value (c.index.ensures ∙ ap (λ l. get_or l c.loop-q.q c.index.result.now) c.boxes.view_is) c.drain_at.ensures.queue c.in_ok-letters.ensures.left c.in_ok-push.ensures.ok
