use Rattle.std.proofs.Common.{◌∙◌, ap, get_or, length}
use Rattle.cd_mailbox.proofs.Seats.{below_count}
use Rattle.cd_mailbox.proofs.Dealing.{may_give, deals_on, dealt_whole, dealt_fresh}
use Rattle.cd_mailbox.proofs.opening.pass_of.Goals as goal

pub give_at-seat-requires-clause-numbers : goal.give_at-seat-requires-clause-numbers
give_at-seat-requires-clause-numbers g c =
    may_give c.args.boxes.now (length c.args.boxes.now) c.args.number c.loop-q.q c.loop-q.rests.items c.loop-q.seats.items c.index_mut-rest.result.now c.loop-q.invariant c.requires.number
    (below_count c.boxes.inside.queues.items c.args.boxes.now c.boxes.inside.queues.len c.len-q-end.result c.loop-q.q c.boxes.view_is c.boxes.inside.queues.ok.0 c.len-q-end.ensures c.loop-q-test.true) c.index_mut-rest.ensures.value

pub loop-q-preserved : goal.loop-q-preserved
loop-q-preserved g c =
    deals_on c.args.boxes.now (length c.args.boxes.now) c.args.number c.loop-q.q c.loop-q.rests.items c.loop-q.seats.items c.push.new.self.items c.index_mut-rest.result.now c.give_at-seat.new.pass c.give_at-seat.result c.index.result.now c.loop-q.invariant c.requires.number
    (below_count c.boxes.inside.queues.items c.args.boxes.now c.boxes.inside.queues.len c.len-q-end.result c.loop-q.q c.boxes.view_is c.boxes.inside.queues.ok.0 c.len-q-end.ensures c.loop-q-test.true) c.index_mut-rest.ensures.value
    (c.index.ensures ∙ ap (λ l. get_or l c.loop-q.q c.index.result.now) c.boxes.view_is) c.give_at-seat.ensures.queue.0 c.give_at-seat.ensures.queue.1 c.give_at-seat.ensures.numbers.0 c.give_at-seat.ensures.numbers.1 c.in_ok-push.ensures.items

pub invariant_of-result : goal.invariant_of-result
invariant_of-result g c =
    dealt_whole c.boxes.inside.queues.items c.args.boxes.now c.boxes.inside.queues.len c.len-q-end.result c.loop-q.q c.args.number c.loop-q.rests.items c.loop-q.seats.items c.boxes.view_is c.boxes.inside.queues.ok.0 c.len-q-end.ensures c.loop-q-test.false c.loop-q.auto.q-end c.loop-q.invariant c.requires.number

pub returns-clause-pass : goal.returns-clause-pass
returns-clause-pass g c =
    dealt_fresh c.boxes.inside.queues.items c.args.boxes.now c.boxes.inside.queues.len c.len-q-end.result c.loop-q.q c.args.number c.loop-q.rests.items c.loop-q.seats.items c.boxes.view_is c.boxes.inside.queues.ok.0 c.len-q-end.ensures c.loop-q-test.false c.loop-q.auto.q-end c.loop-q.invariant c.requires.number
