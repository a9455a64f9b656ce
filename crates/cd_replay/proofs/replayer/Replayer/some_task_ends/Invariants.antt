use Rattle.cd_replay.specs.Ends.{TaskEnds}
use Rattle.cd_replay.specs.Replayed.{replayed}
use Rattle.cd_replay.proofs.Searching.{NoneBelow}
use Rattle.cd_replay.proofs.replayer.Replayer.some_task_ends.Given as goal

abbrev pub invariant-loop-place : goal.invariant-loop-place
invariant-loop-place l = NoneBelow (TaskEnds l.order (replayed l.self) l.verdict) l.self.owed l.place
