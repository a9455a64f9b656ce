use Rattle.std.proofs.Common.{◌≡◌, ◌+◌, length, map}
use Rattle.cd_acts.specs.View.{local_of}
use Rattle.cd_top.specs.Finding.{least_bound}
use Rattle.cd_top.proofs.finding.least_bound.Given as goal

abbrev pub invariant-loop-rest : goal.invariant-loop-rest
invariant-loop-rest l = record {
  so_far : least_bound l.peer (map local_of l.rest) ≡ least_bound 0 (map local_of l.states);
  places : l.peer + length l.rest ≡ length l.states;
}

abbrev pub decreases-loop-rest : goal.decreases-loop-rest
decreases-loop-rest l = length l.rest
