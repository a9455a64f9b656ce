use Rattle.std.proofs.Common.{◌≡◌, ◌++◌, length, map}
use Rattle.cd_top.specs.Finding.{live_among}
use Rattle.cd_top.proofs.finding.put_live.Given as goal

abbrev pub invariant-loop-rest : goal.invariant-loop-rest
invariant-loop-rest l =
    map (λ r. r.now) l.into.items ++ live_among l.me l.rest ≡ map (λ r. r.now) l.initial.into.items ++ live_among l.me l.known

abbrev pub decreases-loop-rest : goal.decreases-loop-rest
decreases-loop-rest l = length l.rest
