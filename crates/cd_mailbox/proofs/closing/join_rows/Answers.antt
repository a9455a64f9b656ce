use Rattle.std.proofs.Common.{◌∙◌, ap, get_or}
use Rattle.cd_mailbox.proofs.Joining.{merges_next, may_merge, may_join}
use Rattle.cd_mailbox.proofs.closing.join_rows.Goals as goal

pub join_at-requires-clause-queue : goal.join_at-requires-clause-queue
join_at-requires-clause-queue g c =
    may_join c.args.boxes.now c.args.all.now.items c.args.seats.items c.loop-seat.all.items c.loop-seat.seats.items c.pop.new.self.items c.len-q.result c.in-Some.seat c.index_mut-one.result.now c.index.result.now c.requires.seats c.loop-seat.invariant
    c.in-Some.ensures.items (c.len-q.ensures ∙ c.pop.new.self.ok.0) c.index_mut-one.ensures.value (c.index.ensures ∙ ap (λ l. get_or l c.len-q.result c.index.result.now) c.boxes.view_is)

pub join_at-requires-clause-numbers : goal.join_at-requires-clause-numbers
join_at-requires-clause-numbers g c =
    may_merge c.args.boxes.now c.args.all.now.items c.args.seats.items c.loop-seat.all.items c.loop-seat.seats.items c.pop.new.self.items c.len-q.result c.in-Some.seat c.index_mut-one.result.now c.requires.seats c.requires.views c.loop-seat.invariant
    c.in-Some.ensures.items (c.len-q.ensures ∙ c.pop.new.self.ok.0) c.index_mut-one.ensures.value

pub loop-seat-preserved : goal.loop-seat-preserved
loop-seat-preserved g c =
    merges_next c.args.boxes.now c.args.all.now.items c.args.seats.items c.loop-seat.all.items c.loop-seat.seats.items c.pop.new.self.items c.len-q.result c.in-Some.seat c.index_mut-one.result.now c.join_at.new.pass c.index.result.now c.requires.seats c.loop-seat.invariant
    c.in-Some.ensures.items (c.len-q.ensures ∙ c.pop.new.self.ok.0) c.index_mut-one.ensures.value (c.index.ensures ∙ ap (λ l. get_or l c.len-q.result c.index.result.now) c.boxes.view_is) c.join_at.ensures.queue c.join_at.ensures.numbers
