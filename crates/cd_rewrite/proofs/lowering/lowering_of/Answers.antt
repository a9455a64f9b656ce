use Rattle.cd_rewrite.proofs.Turns.{left_lowers, right_lowers, lowers_none}
use Rattle.cd_rewrite.proofs.lowering.lowering_of.Goals as goal

pub returns-in-Some : goal.returns-in-Some
returns-in-Some c =
    let first = rw c.in-Some.is at c.in_ok-subst.ensures in
    left_lowers c.args.order.now c.args.eq.now.left.now c.args.eq.now.right.now c.args.eq.now.variables c.args.t.now _ _ c.in-Some.subst c.in_default.is first.0 first.1

pub returns-in-Some-2 : goal.returns-in-Some-2
returns-in-Some-2 c =
    let second = rw c.in-Some-2.is at c.in_ok-subst-2.ensures in
    right_lowers c.args.order.now c.args.eq.now.left.now c.args.eq.now.right.now c.args.eq.now.variables c.args.t.now _ _ c.in-Some-2.subst c.in_default.is
    (rw c.in_default-2.is at c.in_ok-subst.ensures) second.0 second.1

pub returns : goal.returns
returns c =
    lowers_none c.args.order.now c.args.eq.now.left.now c.args.eq.now.right.now c.args.t.now
    (rw c.in_default-2.is at c.in_ok-subst.ensures) (rw c.in_default-3.is at c.in_ok-subst-2.ensures)
