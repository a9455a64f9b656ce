use Rattle.std.proofs.Common.{◌≡◌, take}
use Rattle.cd_replay.specs.Replayed.{IsWhole, replayed}
use Rattle.cd_replay.proofs.Runs.{HasRun}
use Rattle.cd_replay.proofs.replaying.replay.Given as goal

abbrev pub invariant-loop-event : goal.invariant-loop-event
invariant-loop-event l = record {
  whole : IsWhole l.order l.problem l.replayer;
  run : HasRun l.problem l.me l.peers l.fn.policy l.fn.limits (take l.event-index l.journal) (replayed l.replayer);
  counted : l.index ≡ l.event-index;
}
