use Rattle.std.proofs.Common.{◌≡◌, []}
use Rattle.cd_rewrite.specs.Equations.{clause_of, LowersTerm}
use Rattle.cd_rewrite.specs.Walks.{NoLiteralBefore}
use Rattle.cd_rewrite.proofs.places.first_place.Given as goal

abbrev pub invariant-loop-j : goal.invariant-loop-j
invariant-loop-j l = record {
  none : NoLiteralBefore (LowersTerm l.order (clause_of l.eq)) l.literal-items l.j;
  unchanged : l.way.items ≡ [];
}
