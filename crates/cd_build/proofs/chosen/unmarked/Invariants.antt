use Rattle.std.proofs.Common.{◌≡◌, replicate, false}
use Rattle.cd_build.proofs.chosen.unmarked.Given as goal

abbrev pub invariant-loop : goal.invariant-loop
invariant-loop l = l.marks ≡ replicate l.counter false
