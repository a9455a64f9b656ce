use Rattle.std.proofs.Common.{◌≡◌, ◌+◌, ◌≤◌, drop}
use Rattle.cd_list.specs.Lists.{tally}
use Rattle.cd_machine.specs.Events.{no_token}
use Rattle.cd_replay.proofs.replayer.count_letters.Given as goal

abbrev pub invariant-loop-l : goal.invariant-loop-l
invariant-loop-l l = record {
  so_far : l.count + tally no_token (drop l.l-index l.letters) ≡ tally no_token l.letters;
  small : l.count ≤ l.l-index;
}
