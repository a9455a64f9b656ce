use Rattle.std.proofs.Common.{◌≡◌, ◌++◌, length, map}
use Rattle.std.specs.List.{flat_map}
use Rattle.cd_acts.specs.View.{local_of}
use Rattle.cd_recorded.specs.Live.{live_records}
use Rattle.cd_top.proofs.finding.all_live.Given as goal

abbrev pub invariant-loop-rest : goal.invariant-loop-rest
invariant-loop-rest l =
    map (λ r. r.now) l.live.items ++ flat_map live_records (map local_of l.rest) ≡ flat_map live_records (map local_of l.states)

abbrev pub decreases-loop-rest : goal.decreases-loop-rest
decreases-loop-rest l = length l.rest
