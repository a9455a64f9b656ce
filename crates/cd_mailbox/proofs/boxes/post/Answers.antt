use Rattle.cd_mailbox.proofs.Seats.{post_holds, post_owner, post_whole, post_known}
use Rattle.cd_mailbox.proofs.boxes.post.Goals as goal

pub post_at-requires-clause-sender : goal.post_at-requires-clause-sender
post_at-requires-clause-sender g c =
    post_holds g.L.Addressed.sender c.pass.inside.peer c.receiver-to.result (g.L.Addressed.receiver c.args.letter) c.pass.inside.seats.items c.index_mut-seat.result.now c.args.boxes.now c.args.pass.now c.args.letter
    c.pass.invariant c.pass.view_is c.requires.boxes c.receiver-to.ensures c.requires.receiver c.index_mut-seat.ensures.value c.requires.sender

pub post_at-requires-clause-receiver : goal.post_at-requires-clause-receiver
post_at-requires-clause-receiver g c =
    post_owner g.L.Addressed.sender c.pass.inside.peer c.receiver-to.result (g.L.Addressed.receiver c.args.letter) c.pass.inside.seats.items c.index_mut-seat.result.now c.args.boxes.now c.args.pass.now c.args.letter
    c.pass.invariant c.pass.view_is c.requires.boxes c.receiver-to.ensures c.requires.receiver c.index_mut-seat.ensures.value c.requires.sender

pub invariant_of-pass : goal.invariant_of-pass
invariant_of-pass g c =
    post_whole g.L.Addressed.sender c.pass.inside.peer c.receiver-to.result (g.L.Addressed.receiver c.args.letter) c.pass.inside.seats.items c.index_mut-seat.result.now c.args.boxes.now c.args.pass.now c.args.letter
    c.pass.invariant c.pass.view_is c.requires.boxes c.receiver-to.ensures c.requires.receiver c.index_mut-seat.ensures.value c.requires.sender
    c.post_at.new.pass c.post_at.result (c.post_at.ensures.queue.1, c.post_at.ensures.queue.2) c.post_at.ensures.posted

pub returns : goal.returns
returns g c =
    post_known g.L.Addressed.sender c.pass.inside.peer c.receiver-to.result (g.L.Addressed.receiver c.args.letter) c.pass.inside.seats.items c.index_mut-seat.result.now c.args.boxes.now c.args.pass.now c.args.letter
    c.pass.invariant c.pass.view_is c.requires.boxes c.receiver-to.ensures c.requires.receiver c.index_mut-seat.ensures.value c.requires.sender
    c.post_at.new.pass c.post_at.result c.boxes.inside.queues.items c.index.result.now c.boxes.view_is c.index.ensures c.post_at.ensures.queue c.post_at.ensures.posted
