use Rattle.std.proofs.Common.{◌-◌, ap, ◌∙◌, sym, arith, slice_get, map, subst, Some, None}
use Rattle.cd_term.specs.Terms.{applied}
use Rattle.cd_term.specs.Instances.{MeasuresAround}
use Rattle.cd_term.proofs.Replacing.{within_map}
use Rattle.cd_clause.proofs.PlaceLemmas.{at-Pred, measured_as, pred_argument_outside, pred_arguments_outside, pred_arguments_inside}
use Rattle.cd_clause.proofs.places.measure_atom_replaced.Goals as goal

pub returns-in_default-measure_replaced : goal.returns-in_default-measure_replaced
returns-in_default-measure_replaced c =
    let here = ap (slice_get c.in-Pred.args) (sym c.from-place.ensures) ∙ sym c.in-Some-get.ensures.value in
    measured_as _ _ _ _ _ (at-Pred _ _ _ _ _ _ _ c.in-Some.ensures.cases.0 _ _ _ c.in-Pred.is here)
    (pred_argument_outside _ _ _ _ _ (within_map (applied c.args.r.now) _ _ (omega (arith, c.in-Some-get.ensures.within, c.from-place.ensures))) _ c.in_default-measure_replaced.ensures.measure)

pub returns-in_default-measure_around : goal.returns-in_default-measure_around
returns-in_default-measure_around c =
    let here = ap (slice_get c.in-Pred.args) (sym c.from-place.ensures) ∙ sym c.in-Some-get.ensures.value in
    measured_as _ _ _ _ _ (at-Pred _ _ _ _ _ _ _ c.in-Some.ensures.cases.0 _ _ _ c.in-Pred.is here)
    (pred_arguments_outside _ _ _ _ _ _ _ c.in-Some-measure_replaced.ensures.measure
    (subst (λ k. MeasuresAround (c.args.symbols - 1) (c.args.levels - 1) (map (applied c.args.r.now) c.in-Pred.args) k c.in-Some-measure_replaced.inner None) c.from-place.ensures
    (subst (λ ts. MeasuresAround (c.args.symbols - 1) (c.args.levels - 1) (map (applied c.args.r.now) ts) c.from-place.result c.in-Some-measure_replaced.inner None) c.as_slice-items.ensures
    c.in_default-measure_around.ensures.measure)))

pub returns-in-Some-measure_around : goal.returns-in-Some-measure_around
returns-in-Some-measure_around c =
    let here = ap (slice_get c.in-Pred.args) (sym c.from-place.ensures) ∙ sym c.in-Some-get.ensures.value in
    measured_as _ _ _ _ _ (at-Pred _ _ _ _ _ _ _ c.in-Some.ensures.cases.0 _ _ _ c.in-Pred.is here)
    (pred_arguments_inside _ _ _ _ _ _ _ _ (omega arith) (omega arith) c.in-Some-measure_replaced.ensures.measure
    (subst (λ k. MeasuresAround (c.args.symbols - 1) (c.args.levels - 1) (map (applied c.args.r.now) c.in-Pred.args) k c.in-Some-measure_replaced.inner (Some c.in-Some-measure_around.all)) c.from-place.ensures
    (subst (λ ts. MeasuresAround (c.args.symbols - 1) (c.args.levels - 1) (map (applied c.args.r.now) ts) c.from-place.result c.in-Some-measure_replaced.inner (Some c.in-Some-measure_around.all)) c.as_slice-items.ensures
    c.in-Some-measure_around.ensures.measure)))
