use Rattle.std.proofs.Common.{◌≡◌, false}
use Rattle.std.specs.Prelude.{replicate}
use Rattle.cd_subsume.proofs.search.untaken.Given as goal

abbrev pub invariant-loop : goal.invariant-loop
invariant-loop l = l.taken.items ≡ replicate l.counter false
