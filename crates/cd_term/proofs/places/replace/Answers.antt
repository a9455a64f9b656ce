use Rattle.std.proofs.Common.{None, Some, IfSome, sym, ◌∙◌, refl, subst}
use Rattle.cd_term.specs.Terms.{IsWithin, IsMeasureOf}
use Rattle.cd_term.proofs.Replaced.{replaced-nowhere, replaced_refused, not_replaced}
use Rattle.cd_term.proofs.Replacing.{memory_apart, unchanged_replaced, measured_within, measured_not_outside}
use Rattle.cd_term.proofs.places.replace.Goals as goal

pub returns-in_default-clause-value : goal.returns-in_default-clause-value
returns-in_default-clause-value c =
    sym (replaced-nowhere c.args.path.now c.args.new.now c.args.t.now (sym c.in_default.ensures))

pub returns-in_default-clause-refused : goal.returns-in_default-clause-refused
returns-in_default-clause-refused c =
    (λ e. absurd (cc), λ some. absurd (not_replaced 65535 1000 c.args.path.now c.args.new.now c.args.t.now (sym c.in_default.ensures) some))

pub returns-in_default-measure_replaced-clause-refused : goal.returns-in_default-measure_replaced-clause-refused
returns-in_default-measure_replaced-clause-refused c =
    let same = unchanged_replaced c.as_slice-none.result.now c.as_slice-steps.result.now c.args.path.now c.args.new.now c.args.t.now c.as_slice-none.ensures c.as_slice-steps.ensures in (
      λ e. replaced_refused 65535 1000 c.args.path.now c.args.path.now c.args.new.now c.args.t.now _ c.in-Some.ensures refl
          (subst (λ o. IsMeasureOf 65535 1000 o None) same c.in_default-measure_replaced.ensures.measure),
      λ some. refl,
    )

pub returns-in_err-substitute_replaced-clause-refused : goal.returns-in_err-substitute_replaced-clause-refused
returns-in_err-substitute_replaced-clause-refused c =
    let same = unchanged_replaced c.as_slice-none.result.now c.as_slice-steps.result.now c.args.path.now c.args.new.now c.args.t.now c.as_slice-none.ensures c.as_slice-steps.ensures in
    (λ e. absurd (memory_apart c.from_residual.result c.from_residual.ensures.1 e), λ some. absurd (measured_not_outside 65535 1000 c.in-Some-measure_replaced.field-0 _ (subst (λ o. IsMeasureOf 65535 1000 o (Some c.in-Some-measure_replaced.field-0)) same c.in-Some-measure_replaced.ensures.measure) some))

pub returns-clause-value : goal.returns-clause-value
returns-clause-value c =
    c.in_ok-substitute_replaced.ensures
    ∙ unchanged_replaced c.as_slice-none.result.now c.as_slice-steps.result.now c.args.path.now c.args.new.now c.args.t.now c.as_slice-none.ensures c.as_slice-steps.ensures

pub returns-clause-within : goal.returns-clause-within
returns-clause-within c =
    subst (λ o. IfSome o (IsWithin 65535 1000)) (sym c.in_ok-substitute_replaced.ensures) (measured_within 65535 1000 _ _ c.in-Some-measure_replaced.ensures.measure)

pub returns-clause-refused : goal.returns-clause-refused
returns-clause-refused c =
    let same = unchanged_replaced c.as_slice-none.result.now c.as_slice-steps.result.now c.args.path.now c.args.new.now c.args.t.now c.as_slice-none.ensures c.as_slice-steps.ensures in
    (λ e. absurd (cc), λ some. absurd (measured_not_outside 65535 1000 c.in-Some-measure_replaced.field-0 _ (subst (λ o. IsMeasureOf 65535 1000 o (Some c.in-Some-measure_replaced.field-0)) same c.in-Some-measure_replaced.ensures.measure) some))
