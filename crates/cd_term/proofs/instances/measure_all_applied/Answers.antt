use Rattle.std.proofs.Common.{arith}
use Rattle.cd_term.specs.Terms.{applied}
use Rattle.cd_term.proofs.Measures.{next_measured, outside_measured, whole_measured, at_map, below_map, past_map}
use Rattle.cd_term.proofs.instances.measure_all_applied.Goals as goal

pub returns-in_default : goal.returns-in_default
returns-in_default c =
    let h = applied c.args.s.now in
    λ within. outside_measured _ _ 0 _ _ _ _ (below_map h _ _ c.loop-t-test.true) (at_map h _ _ _ c.loop-t-test.true c.t-item.is)
    (omega (arith, c.loop-t.invariant.total_is)) c.in_default.ensures (omega (arith, within.0), within.1)

pub loop-t-preserved : goal.loop-t-preserved
loop-t-preserved c =
    let h = applied c.args.s.now in
    let next = next_measured _ _ 0 _ _ _ _ _ (below_map h _ _ c.loop-t-test.true) (at_map h _ _ _ c.loop-t-test.true c.t-item.is)
    (omega (arith, c.loop-t.invariant.total_is)) c.loop-t.invariant.few c.loop-t.invariant.flat c.in-Some.ensures in
    record { total_is = omega (arith, next.0); few = next.1; flat = next.2 }

pub returns : goal.returns
returns c =
    let all = whole_measured _ _ 0 _ _ _ (past_map (applied c.args.s.now) _ _ c.loop-t-test.false)
    (omega (arith, c.loop-t.invariant.total_is)) c.loop-t.invariant.few c.loop-t.invariant.flat in
    (omega (arith, all.0), (omega (arith, all.1), all.2))
