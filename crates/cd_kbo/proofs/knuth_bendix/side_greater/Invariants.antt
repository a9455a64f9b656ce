use Rattle.std.proofs.Common.{◌-◌, ◌^◌}
use Rattle.cd_kbo.specs.Sides.{term_of}
use Rattle.cd_kbo.specs.Kbo.{GreaterOn}
use Rattle.cd_kbo.proofs.BlockLemmas.{Below}
use Rattle.cd_kbo.proofs.knuth_bendix.side_greater.Given as goal

abbrev pub invariant-loop-base : goal.invariant-loop-base
invariant-loop-base l = GreaterOn (Below l.from) l.order (term_of l.s) (term_of l.t)

abbrev pub decreases-loop-base : goal.decreases-loop-base
decreases-loop-base l = 2 ^ 33 - l.from
