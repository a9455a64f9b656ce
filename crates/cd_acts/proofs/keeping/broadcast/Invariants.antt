use Rattle.std.proofs.Common.{◌≡◌, ◌++◌}
use Rattle.cd_machine.specs.Acts.{broadcast}
use Rattle.cd_acts.proofs.keeping.broadcast.Given as goal

abbrev pub invariant-loop-to : goal.invariant-loop-to
invariant-loop-to l = l.letters ≡ l.initial.letters ++ broadcast l.me l.time l.r l.to
