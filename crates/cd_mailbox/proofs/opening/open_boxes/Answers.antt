use Rattle.cd_mailbox.proofs.Dealing.{fresh_more}
use Rattle.cd_mailbox.proofs.opening.open_boxes.Goals as goal

pub loop-number-preserved : goal.loop-number-preserved
loop-number-preserved g c =
    let more = fresh_more c.loop-number.number c.in_ok-boxes.boxes c.loop-number.passes c.push.new.self c.in_ok-pass.pass c.loop-number.invariant.count c.loop-number.invariant.each c.in_ok-push.ensures.ok c.in_ok-pass.ensures.pass in
    record { rests = c.in_ok-pass.ensures.rests; count = more.0; each = more.1 }
