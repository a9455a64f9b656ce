use Rattle.std.proofs.Common.{◌∙◌, ap, get_or}
use Rattle.cd_mailbox.specs.Known.{Known}
use Rattle.cd_mailbox.proofs.Seats.{take_whole, take_known}
use Rattle.cd_mailbox.proofs.boxes.collect.Goals as goal

pub invariant_of-pass : goal.invariant_of-pass
invariant_of-pass g c =
    take_whole c.take_at.result c.pass.inside.peer c.pass.inside.seats.items c.take_at.new.pass c.index_mut-seat.result.now _ _ c.pass.invariant c.index_mut-seat.ensures.value (c.take_at.ensures.queue.1, c.take_at.ensures.queue.2) c.take_at.ensures.taken

pub returns : goal.returns
returns g c =
    let ids = ap (λ (k : Known g.row.L.Denot). k.boxes) c.pass.view_is ∙ c.requires in
    take_known g.L.Addressed.sender g.L.Addressed.receiver c.take_at.result c.pass.inside.peer c.pass.inside.seats.items c.take_at.new.pass c.index_mut-seat.result.now c.args.boxes.now c.index.result.now c.args.pass.now
    c.pass.invariant c.index_mut-seat.ensures.value ids (c.index.ensures ∙ ap (λ l. get_or l c.pass.inside.peer c.index.result.now) c.boxes.view_is) c.take_at.ensures.queue c.pass.view_is c.take_at.ensures.taken
