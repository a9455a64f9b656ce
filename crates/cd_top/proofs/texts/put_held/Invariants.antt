use Rattle.std.proofs.Common.{◌≡◌, ◌++◌, length, map}
use Rattle.std.specs.List.{flat_map}
use Rattle.cd_top.specs.Texts.{with_feed, held_line}
use Rattle.cd_top.proofs.texts.put_held.Given as goal

abbrev pub invariant-loop-rest : goal.invariant-loop-rest
invariant-loop-rest l =
    l.into ++ flat_map (λ r. with_feed (held_line l.symbols r)) (map (λ r. r.now) l.rest)
    ≡ l.initial.into ++ flat_map (λ r. with_feed (held_line l.symbols r)) (map (λ r. r.now) l.live)

abbrev pub decreases-loop-rest : goal.decreases-loop-rest
decreases-loop-rest l = length l.rest
