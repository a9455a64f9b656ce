use Rattle.std.proofs.Common.{sum_by, take}
use Rattle.cd_term.specs.Terms.{size_of}
use Rattle.cd_kbo.specs.Sides.{term_of}
use Rattle.cd_kbo.specs.Kbo.{occurrences}
use Rattle.cd_kbo.specs.Blocks.{IsNext}
use Rattle.cd_kbo.proofs.variables.+next_variable.Given as goal

abbrev pub invariant-loop-arg : goal.invariant-loop-arg
invariant-loop-arg l = IsNext l.from (λ k. sum_by (occurrences k) (take l.arg-index l.args)) l.found

abbrev pub decreases-next_variable : goal.decreases-next_variable
decreases-next_variable l = size_of (term_of l.s)
