use Rattle.std.proofs.Common.{◌≡◌, ◌++◌, length}
use Rattle.cd_replay.proofs.owing.drain.Given as goal

abbrev pub invariant-loop-task : goal.invariant-loop-task
invariant-loop-task l = record {
  owed : l.owed ++ l.tasks.owed ≡ l.initial.owed ++ l.initial.tasks.owed;
  arrivals : l.tasks.arrivals ≡ l.initial.tasks.arrivals;
}

abbrev pub decreases-loop-task : goal.decreases-loop-task
decreases-loop-task l = length l.tasks.owed
