use Rattle.std.proofs.Common.{take}
use Rattle.cd_rewrite.proofs.Sides.{HasAllOf}
use Rattle.cd_rewrite.proofs.equations.+has_variables_of.Given as goal

abbrev pub invariant-loop-arg : goal.invariant-loop-arg
invariant-loop-arg l = HasAllOf l.from (take l.arg-index l.arg-items)
