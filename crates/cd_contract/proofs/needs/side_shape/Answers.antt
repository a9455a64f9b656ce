use Rattle.cd_rewrite.proofs.Sides.{never_falls}
use Rattle.cd_contract.proofs.Needing.{false_test}
use Rattle.cd_contract.proofs.needs.side_shape.Goals as goal

pub returns-then-not-may_lower : goal.returns-then-not-may_lower
returns-then-not-may_lower c = λ g u falls. absurd (c.may_lower.ensures c.if-not-may_lower.true c.args.order.now u g falls)

pub returns-then-not-has_variables_of : goal.returns-then-not-has_variables_of
returns-then-not-has_variables_of c = λ g u falls. absurd (false_test _ _ c.has_variables_of.ensures c.if-not-has_variables_of.true falls.0)

pub returns : goal.returns
returns c = λ g u falls. c.shape_of.ensures.value

pub returns-then-is_falling : goal.returns-then-is_falling
returns-then-is_falling c = λ g u falls. absurd (never_falls c.args.order.now c.args.from.now c.args.to.now (c.is_falling.ensures c.if-is_falling.true) u g falls)
