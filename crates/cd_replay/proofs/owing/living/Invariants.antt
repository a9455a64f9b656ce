use Rattle.std.proofs.Common.{◌≡◌, filter, take}
use Rattle.cd_replay.specs.Replayed.{is_living}
use Rattle.cd_replay.proofs.owing.living.Given as goal

abbrev pub invariant-loop-task : goal.invariant-loop-task
invariant-loop-task l = l.living ≡ filter (is_living l.known) (take l.task-index l.owed)
