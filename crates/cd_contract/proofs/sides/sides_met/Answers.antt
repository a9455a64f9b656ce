use Rattle.std.proofs.Common.{subst}
use Rattle.cd_rewrite.specs.Reduction.{ReducesAt}
use Rattle.cd_contract.specs.Parts.{Misses}
use Rattle.cd_contract.proofs.Parting.{left_missed, right_missed, not_wanted, not_met}
use Rattle.cd_contract.proofs.sides.sides_met.Goals as goal

pub returns-clause-left : goal.returns-clause-left
returns-clause-left c = λ out d sought at side.
    not_met (ReducesAt c.args.order.now c.args.kept.now.entry.clause d at) _ _ _ _
    (Misses c.args.order.now c.in-Some.left.now c.in-Some.right.now c.args.needs.now.left c.as_slice-parts.result.now) c.in_ok-at_left.ensures c.are_both-from_left.ensures
    (λ is. c.may_reduce_left.ensures is c.args.order.now c.args.kept.now.entry.clause d c.requires.needs sought.marks at side)
    (λ is. c.may_reduce_left-2.ensures is c.args.order.now c.args.kept.now.entry.clause d c.requires.row sought.row at side)
    (λ misses. left_missed c.args.order.now c.args.kept.now.entry.clause d c.args.sought.now c.args.needs.now c.in-Some.left.now c.in-Some.right.now c.in-Some.ensures c.requires.needs
    sought (subst (Misses c.args.order.now c.in-Some.left.now c.in-Some.right.now c.args.needs.now.left) c.as_slice-parts.ensures.value misses) at side) out

pub returns-clause-right : goal.returns-clause-right
returns-clause-right c = λ out d sought at side.
    not_met (ReducesAt c.args.order.now c.args.kept.now.entry.clause d at) _ _ _ _
    (Misses c.args.order.now c.in-Some.right.now c.in-Some.left.now c.args.needs.now.right c.as_slice-parts.result.now) c.in_ok-at_right.ensures c.are_both-from_right.ensures
    (λ is. c.may_reduce_right.ensures is c.args.order.now c.args.kept.now.entry.clause d c.requires.needs sought.marks at side)
    (λ is. c.may_reduce_right-2.ensures is c.args.order.now c.args.kept.now.entry.clause d c.requires.row sought.row at side)
    (λ misses. right_missed c.args.order.now c.args.kept.now.entry.clause d c.args.sought.now c.args.needs.now c.in-Some.left.now c.in-Some.right.now c.in-Some.ensures c.requires.needs
    sought (subst (Misses c.args.order.now c.in-Some.right.now c.in-Some.left.now c.args.needs.now.right) c.as_slice-parts.ensures.value misses) at side) out

pub returns-then-not-from_right-clause-left : goal.returns-then-not-from_right-clause-left
returns-then-not-from_right-clause-left c = λ out d sought at side.
    not_wanted (ReducesAt c.args.order.now c.args.kept.now.entry.clause d at) _ _ _ c.are_both-from_left.ensures
    (λ is. c.may_reduce_left.ensures is c.args.order.now c.args.kept.now.entry.clause d c.requires.needs sought.marks at side)
    (λ is. c.may_reduce_left-2.ensures is c.args.order.now c.args.kept.now.entry.clause d c.requires.row sought.row at side) c.if-not-from_left.true

pub returns-then-not-from_right-clause-right : goal.returns-then-not-from_right-clause-right
returns-then-not-from_right-clause-right c = λ out d sought at side.
    not_wanted (ReducesAt c.args.order.now c.args.kept.now.entry.clause d at) _ _ _ c.are_both-from_right.ensures
    (λ is. c.may_reduce_right.ensures is c.args.order.now c.args.kept.now.entry.clause d c.requires.needs sought.marks at side)
    (λ is. c.may_reduce_right-2.ensures is c.args.order.now c.args.kept.now.entry.clause d c.requires.row sought.row at side) c.if-not-from_right.true
