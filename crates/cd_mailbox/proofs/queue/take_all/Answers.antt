use Rattle.std.proofs.Common.{sym, subst}
use Rattle.cd_mailbox.specs.Life.{Drains}
use Rattle.cd_mailbox.specs.Known.{seen}
use Rattle.cd_mailbox.proofs.Steps.{drains, drains_more}
use Rattle.cd_mailbox.proofs.queue.take_all.Goals as goal

pub returns-in-None-take_at-clause-left : goal.returns-in-None-take_at-clause-left
returns-in-None-take_at-clause-left g c =
    subst (Drains g.L.Addressed.sender g.L.Addressed.receiver (seen c.args.pass.now)) (sym c.in_ok-reserve.ensures.items)
    (drains g.L.Addressed.sender g.L.Addressed.receiver (seen c.args.pass.now) (seen c.loop.pass) c.loop.left.items c.requires.owner c.loop.invariant.3 c.in-None-take_at.ensures.taken.1 c.loop.invariant.4)

pub loop-preserved : goal.loop-preserved
loop-preserved g c =
    let m = drains_more g.L.Addressed.sender g.L.Addressed.receiver (seen c.args.pass.now) (seen c.loop.pass) (seen c.take_at.new.pass) c.loop.left.items c.reserve.new.self.items c.push_reserved.new.self.items c.in-Some-take_at.letter c.loop.invariant.3
    c.in-Some-take_at.ensures.taken.0 c.in_ok-reserve.ensures.items c.push_reserved.ensures.items c.loop.invariant.4 c.in-Some-take_at.ensures.taken.1 in
    (tt, tt, c.in-Some-take_at.ensures.queue, m.0, m.1)
