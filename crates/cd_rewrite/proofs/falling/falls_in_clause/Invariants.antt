use Rattle.cd_rewrite.specs.Walks.{FallsFrom, NoLiteralBefore}
use Rattle.cd_rewrite.proofs.falling.falls_in_clause.Given as goal

abbrev pub invariant-loop-literal : goal.invariant-loop-literal
invariant-loop-literal l = NoLiteralBefore (FallsFrom l.order l.from l.to) l.literal-items l.literal-index
