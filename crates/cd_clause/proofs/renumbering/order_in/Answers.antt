use Rattle.std.proofs.Common.{[]}
use Rattle.cd_clause.proofs.ClauseTerms.{order_more}
use Rattle.cd_clause.proofs.renumbering.order_in.Goals as goal

pub loop-literal-preserved : goal.loop-literal-preserved
loop-literal-preserved c =
    order_more [] _ _ _ _ _ c.loop-literal-test.true c.literal-item.is c.loop-literal.invariant c.in_ok-note_atom.ensures
