use Rattle.std.proofs.Common.{◌≡◌}
use Rattle.cd_rewrite.specs.Equations.{clause_of, LowersTerm}
use Rattle.cd_rewrite.proofs.FirstPaths.{NoneBefore}
use Rattle.cd_rewrite.proofs.places.first_among.Given as goal

abbrev pub invariant-loop-i : goal.invariant-loop-i
invariant-loop-i l = record {
  none : NoneBefore (LowersTerm l.order (clause_of l.eq)) l.terms l.i;
  unchanged : l.way.items ≡ l.initial.way.items;
}
