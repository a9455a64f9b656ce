use Rattle.std.proofs.Common.{arith}
use Rattle.cd_read.specs.Meaning.{depth_of}
use Rattle.cd_parse.specs.Trees.{size_of}
use Rattle.cd_read.proofs.Measures.{next_measured, outside_measured}
use Rattle.cd_read.proofs.measuring.measure_all.Goals as goal

pub returns-in_default : goal.returns-in_default
returns-in_default c = λ within.
    outside_measured size_of depth_of _ _ 0 _ _ _ _ c.loop-t-test.true c.t-item.is
    (omega (arith, c.loop-t.invariant.total_is)) c.in_default.ensures
    (omega (arith, within.0), within.1)

pub loop-t-preserved : goal.loop-t-preserved
loop-t-preserved c =
    let next = next_measured size_of depth_of _ _ 0 _ _ _ _ _ c.loop-t-test.true c.t-item.is (omega (arith, c.loop-t.invariant.total_is))
    c.loop-t.invariant.few c.loop-t.invariant.flat c.in-Some.ensures.0 c.in-Some.ensures.1.0 c.in-Some.ensures.1.1 in
    record { total_is = omega (arith, next.0); few = next.1; flat = next.2 }
