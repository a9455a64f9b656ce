use Rattle.cd_rewrite.proofs.Turns.{no_fall}
use Rattle.cd_rewrite.proofs.lowering.try_side.Goals as goal

pub returns-then-not-may_lower : goal.returns-then-not-may_lower
returns-then-not-may_lower c = c.requires.known c.if-not-may_lower.true c.args.t.now

pub returns-in_default : goal.returns-in_default
returns-in_default c = λ g falls. (rw c.in_default.is at c.in_ok-subst.ensures) g falls.1

pub returns-then-not-branch : goal.returns-then-not-branch
returns-then-not-branch c =
    let matched = rw c.in-Some.is at c.in_ok-subst.ensures in
    no_fall c.args.order.now c.args.from.now c.args.to.now c.args.t.now c.in-Some.subst _ matched.1 c.in_ok-is_lowered.ensures c.if-not-branch.true

pub returns : goal.returns
returns c =
    let matched = rw c.in-Some.is at c.in_ok-subst.ensures in
    let down = c.in_ok-is_lowered.ensures.0 c.if-not-branch.false in (matched.0, (down.0, matched.1, down.1))
