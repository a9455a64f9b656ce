use Rattle.std.proofs.Common.{◌≡◌}
use Rattle.cd_term.specs.Terms.{size_of}
use Rattle.cd_rewrite.specs.Equations.{clause_of, LowersTerm}
use Rattle.cd_rewrite.proofs.FirstPaths.{NoneBefore}
use Rattle.cd_rewrite.proofs.walks.+first_in.Given as goal

abbrev pub invariant-loop-i : goal.invariant-loop-i
invariant-loop-i l = record {
  none : NoneBefore (LowersTerm l.order (clause_of l.eq)) l.arg-items l.i;
  unchanged : l.way.items ≡ l.fn.way.items;
}

abbrev pub decreases-first_in : goal.decreases-first_in
decreases-first_in l = size_of l.t.now
