use Rattle.cd_clause.proofs.ClauseTerms.{bound_more, bound_all}
use Rattle.cd_clause.proofs.sizes.variables.Goals as goal

pub loop-literal-preserved : goal.loop-literal-preserved
loop-literal-preserved c =
    bound_more _ _ _ _ _ _ c.loop-literal-test.true c.literal-item.is c.loop-literal.invariant c.bound_of_literal.ensures c.max-bound.ensures

pub returns : goal.returns
returns c = bound_all _ _ _ _ c.loop-literal-test.false c.as_slice-literal-items.ensures c.loop-literal.invariant
