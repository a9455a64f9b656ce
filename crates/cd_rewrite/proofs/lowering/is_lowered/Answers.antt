use Rattle.cd_rewrite.proofs.Lowered.{lowered_by_greater, not_lowered_by_smaller, not_lowered_by_larger, not_lowered_uncovered, lowered_by_instance}
use Rattle.cd_rewrite.proofs.lowering.is_lowered.Goals as goal

pub returns-then-is_larger : goal.returns-then-is_larger
returns-then-is_larger c =
    not_lowered_by_larger c.args.order.now c.args.from.now c.args.to.now c.args.t.now c.args.s.now (c.is_larger.ensures c.if-is_larger.true)

pub returns-then-is_falling : goal.returns-then-is_falling
returns-then-is_falling c =
    lowered_by_greater c.args.order.now c.args.from.now c.args.to.now c.args.t.now c.args.s.now (c.is_falling.ensures c.if-is_falling.true) c.requires.matched

pub returns-then-is_falling-2 : goal.returns-then-is_falling-2
returns-then-is_falling-2 c =
    not_lowered_by_smaller c.args.order.now c.args.from.now c.args.to.now c.args.t.now c.args.s.now (c.is_falling-2.ensures c.if-is_falling-2.true) c.requires.matched

pub returns-then-not-has_variables_of : goal.returns-then-not-has_variables_of
returns-then-not-has_variables_of c =
    not_lowered_uncovered c.args.order.now c.args.from.now c.args.to.now c.args.t.now c.args.s.now _ c.has_variables_of.ensures c.if-not-has_variables_of.true

pub returns : goal.returns
returns c =
    lowered_by_instance c.args.order.now c.args.from.now c.args.to.now c.args.t.now c.args.s.now _ (c.has_variables_of.ensures.0 c.if-not-has_variables_of.false)
    c.in_ok-above.ensures
