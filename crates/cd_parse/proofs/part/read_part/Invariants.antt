use Rattle.std.proofs.Common.{◌≡◌, ◌≤◌, ◌-◌, length}
use Rattle.cd_parse.specs.Code.{stage_of, StageFits}
use Rattle.cd_parse.specs.Reading.{Begun, IsOpen}
use Rattle.cd_parse.proofs.part.read_part.Given as goal

abbrev pub invariant-loop-found : goal.invariant-loop-found
invariant-loop-found l = record {
  within : l.progress.at ≤ length l.bytes;
  open_ : IsOpen (stage_of l.progress.stage);
  fits : StageFits l.progress.stage;
  later : l.progress.from ≤ l.progress.at;
  same : l.progress.from ≡ l.initial.progress.at;
  begun : Begun l.opens l.bytes l.progress.from l.progress.starts (stage_of l.progress.stage) l.progress.words l.progress.at;
}

abbrev pub decreases-loop-found : goal.decreases-loop-found
decreases-loop-found l = length l.bytes - l.progress.at
