use Rattle.std.proofs.Common.{map, ap, ◌∙◌, arith}
use Rattle.cd_term.specs.Terms.{applied}
use Rattle.cd_term.proofs.Equations.{applied-App}
use Rattle.cd_term.proofs.Measures.{next_measured, outside_measured, whole_measured, arguments_within, symbol_measured, at_map, below_map, past_map}
use Rattle.cd_term.proofs.substitution.+measure_applied.Goals as goal

pub returns-in_default : goal.returns-in_default
returns-in_default t c =
    let h = applied c.args.s.now in
    let is = ap h c.in-App.is ∙ applied-App c.args.s.now c.in-App.field-0 c.in-App.args in
    λ within. outside_measured _ _ 1 _ _ _ _ (below_map h _ _ c.loop-arg-test.true) (at_map h _ _ _ c.loop-arg-test.true c.arg-item.is)
    c.loop-arg.invariant.total_is c.in_default.ensures
    (arguments_within _ _ _ _ _ _ is (ap (map h) c.as_slice-arg-items.ensures) within)

pub loop-arg-preserved : goal.loop-arg-preserved
loop-arg-preserved t c =
    let h = applied c.args.s.now in
    let next = next_measured _ _ 1 _ _ _ _ _ (below_map h _ _ c.loop-arg-test.true) (at_map h _ _ _ c.loop-arg-test.true c.arg-item.is)
    c.loop-arg.invariant.total_is c.loop-arg.invariant.few c.loop-arg.invariant.flat c.in-Some-measure_applied.ensures in
    record { total_is = next.0; few = next.1; flat = next.2 }

pub returns-after-loop-arg : goal.returns-after-loop-arg
returns-after-loop-arg t c =
    let h = applied c.args.s.now in
    let is = ap h c.in-App.is ∙ applied-App c.args.s.now c.in-App.field-0 c.in-App.args in
    symbol_measured _ _ _ _ _ _ _ is (ap (map h) c.as_slice-arg-items.ensures) (omega arith)
    (whole_measured _ _ 1 _ _ _ (past_map h _ _ c.loop-arg-test.false) c.loop-arg.invariant.total_is c.loop-arg.invariant.few c.loop-arg.invariant.flat)
