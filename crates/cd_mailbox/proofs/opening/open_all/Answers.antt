use Rattle.std.proofs.Common.{◌∙◌, ◌++◌, ◌∷◌, [], ap}
use Rattle.cd_mailbox.proofs.Dealing.{rests_more}
use Rattle.cd_mailbox.proofs.opening.open_all.Goals as goal

pub loop-owner-preserved : goal.loop-owner-preserved
loop-owner-preserved g c =
    let more = c.push_reserved.ensures.items ∙ ap (λ l. l ++ c.in_ok-queue.queue ∷ []) (c.in_ok-reserve.ensures.items ∙ c.boxes.view_is) in
    let r = rests_more c.loop-owner.owner c.args.peers c.loop-owner.boxes c.push_reserved.new.self.items c.in_ok-queue.queue c.loop-owner.rests.items c.push.new.self.items c.in_ok-queue.rest c.loop-owner.invariant.rests c.loop-owner.invariant.count
    more c.in_ok-push.ensures.items c.in_ok-queue.ensures.0 c.in_ok-queue.ensures.1 in
    record { rests = r.0; count = r.1 }
