use Rattle.std.proofs.Common.{◌≤◌, map, take}
use Rattle.cd_term.specs.Terms.{bound_of, greatest}
use Rattle.cd_steps.proofs.building.have_few_variables.Given as goal

abbrev pub invariant-loop-term : goal.invariant-loop-term
invariant-loop-term l = greatest (map bound_of (take l.term-index l.terms)) ≤ 65536
