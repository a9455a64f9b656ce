use Rattle.cd_term.specs.Terms.{size_of}
use Rattle.cd_rewrite.specs.Walks.{FallsFrom}
use Rattle.cd_rewrite.proofs.FirstPaths.{NoneBefore}
use Rattle.cd_rewrite.proofs.falling.+falls_in.Given as goal

abbrev pub invariant-loop-arg : goal.invariant-loop-arg
invariant-loop-arg l = NoneBefore (FallsFrom l.order l.from l.to) l.arg-items l.arg-index

abbrev pub decreases-falls_in : goal.decreases-falls_in
decreases-falls_in l = size_of l.t.now
