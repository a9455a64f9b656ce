use Rattle.std.proofs.Common.{ap, ◌∙◌, sym, arith, slice_get, map, subst, Some, None, ◌-◌}
use Rattle.cd_term.specs.Terms.{applied}
use Rattle.cd_term.specs.Instances.{MeasuresAround}
use Rattle.cd_term.proofs.Around.{argument_outside, arguments_outside, arguments_inside}
use Rattle.cd_term.proofs.Replacing.{under-Var, under-out, under_measured, measured_nowhere, within_map}
use Rattle.cd_term.proofs.places.+measure_replaced.Goals as goal

pub returns-in-Var-clause-measure : goal.returns-in-Var-clause-measure
returns-in-Var-clause-measure t c = measured_nowhere _ _ _ (under-Var _ _ _ _ _ _ _ _ c.in-Some.ensures.cases.0 c.in-Var.is)

pub returns-in_default-get-clause-measure : goal.returns-in_default-get-clause-measure
returns-in_default-get-clause-measure t c =
    measured_nowhere _ _ _ (under-out _ _ _ _ _ _ _ _ _ c.in-Some.ensures.cases.0 c.in-App.is
    (ap (slice_get c.in-App.args) (sym c.from-place.ensures) ∙ sym c.in_default-get.ensures.value))

pub returns-in_default-measure_replaced-clause-measure : goal.returns-in_default-measure_replaced-clause-measure
returns-in_default-measure_replaced-clause-measure t c =
    let here = ap (slice_get c.in-App.args) (sym c.from-place.ensures) ∙ sym c.in-Some-get.ensures.value in
    under_measured _ _ _ _ _ _ _ _ _ _ _ _ _ c.in-Some.ensures.cases.0 c.in-App.is here
    (argument_outside _ _ _ _ _ (within_map (applied c.args.r.now) _ _ (omega (arith, c.in-Some-get.ensures.within, c.from-place.ensures))) _ c.in_default-measure_replaced.ensures.measure)

pub returns-in_default-measure_around-clause-measure : goal.returns-in_default-measure_around-clause-measure
returns-in_default-measure_around-clause-measure t c =
    let here = ap (slice_get c.in-App.args) (sym c.from-place.ensures) ∙ sym c.in-Some-get.ensures.value in
    under_measured _ _ _ _ _ _ _ _ _ _ _ _ _ c.in-Some.ensures.cases.0 c.in-App.is here
    (arguments_outside _ _ _ _ _ _ _ c.in-Some-measure_replaced.ensures.measure
    (subst (λ k. MeasuresAround (c.args.symbols - 1) (c.args.levels - 1) (map (applied c.args.r.now) c.in-App.args) k c.in-Some-measure_replaced.inner None) c.from-place.ensures
    (subst (λ ts. MeasuresAround (c.args.symbols - 1) (c.args.levels - 1) (map (applied c.args.r.now) ts) c.from-place.result c.in-Some-measure_replaced.inner None) c.as_slice-items.ensures
    c.in_default-measure_around.ensures.measure)))

pub returns-in-Some-measure_around-clause-measure : goal.returns-in-Some-measure_around-clause-measure
returns-in-Some-measure_around-clause-measure t c =
    let here = ap (slice_get c.in-App.args) (sym c.from-place.ensures) ∙ sym c.in-Some-get.ensures.value in
    under_measured _ _ _ _ _ _ _ _ _ _ _ _ _ c.in-Some.ensures.cases.0 c.in-App.is here
    (arguments_inside _ _ _ _ _ _ _ _ (omega arith) (omega arith) c.in-Some-measure_replaced.ensures.measure
    (subst (λ k. MeasuresAround (c.args.symbols - 1) (c.args.levels - 1) (map (applied c.args.r.now) c.in-App.args) k c.in-Some-measure_replaced.inner (Some c.in-Some-measure_around.all)) c.from-place.ensures
    (subst (λ ts. MeasuresAround (c.args.symbols - 1) (c.args.levels - 1) (map (applied c.args.r.now) ts) c.from-place.result c.in-Some-measure_replaced.inner (Some c.in-Some-measure_around.all)) c.as_slice-items.ensures
    c.in-Some-measure_around.ensures.measure)))
