use Rattle.std.proofs.Common.{◌≡◌, ◌≤◌, ◌*◌, ◌-◌, ◌^◌, sum_by, take}
use Rattle.cd_names.proofs.waves.all_received.Given as goal

abbrev pub invariant-loop-count : goal.invariant-loop-count
invariant-loop-count l = record {
  so_far : l.total ≡ sum_by (λ count. count.received) (take l.count-index l.counts);
  small : l.total ≤ l.count-index * (2 ^ 64 - 1);
}
