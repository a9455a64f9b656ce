use Rattle.std.proofs.Common.{arith}
use Rattle.cd_read.specs.Meaning.{depth_of}
use Rattle.cd_parse.specs.Trees.{size_of}
use Rattle.cd_read.proofs.Measures.{next_measured, outside_measured, whole_measured, arguments_within, symbol_measured}
use Rattle.cd_read.proofs.measuring.+measure.Goals as goal

pub returns-in_default : goal.returns-in_default
returns-in_default t c = λ within.
    outside_measured size_of depth_of _ _ 1 _ _ _ _ c.loop-arg-test.true c.arg-item.is c.loop-arg.invariant.total_is c.in_default.ensures
    (arguments_within _ _ _ _ _ _ c.in-App.is c.as_slice-arg-items.ensures within)

pub loop-arg-preserved : goal.loop-arg-preserved
loop-arg-preserved t c =
    let next = next_measured size_of depth_of _ _ 1 _ _ _ _ _ c.loop-arg-test.true c.arg-item.is c.loop-arg.invariant.total_is
    c.loop-arg.invariant.few c.loop-arg.invariant.flat c.in-Some.ensures.0 c.in-Some.ensures.1.0 c.in-Some.ensures.1.1 in
    record { total_is = next.0; few = next.1; flat = next.2 }

pub returns-after-loop-arg : goal.returns-after-loop-arg
returns-after-loop-arg t c =
    symbol_measured _ _ _ _ _ _ _ c.in-App.is c.as_slice-arg-items.ensures (omega arith)
    (whole_measured size_of depth_of _ _ 1 _ _ _ c.loop-arg-test.false c.loop-arg.invariant.total_is c.loop-arg.invariant.few c.loop-arg.invariant.flat)
