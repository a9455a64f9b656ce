use Rattle.std.proofs.Common.{◌≡◌, ap, ◌∙◌, sym, arith, refl, slice_get, Some, None, subst}
use Rattle.std.proofs.lemmas.List.{nil_from_length}
use Rattle.std.proofs.lemmas.Bool.{false≢true}
use Rattle.std.proofs.lemmas.Option.{same_Some}
use Rattle.cd_term.specs.Instances.{replaced_under, IsBeside}
use Rattle.cd_term.proofs.Replacing.{under-Var, meets, joins, result_apart, got}
use Rattle.cd_term.proofs.places.+is_replaced.Goals as goal

pub returns-in_default : goal.returns-in_default
returns-in_default t c =
    let here : replaced_under c.args.r.now c.args.s.now c.args.path.now c.args.new.now c.args.t.now ≡ Some _ =
    ap (λ p. replaced_under c.args.r.now c.args.s.now p c.args.new.now c.args.t.now) (nil_from_length _ c.in_default.ensures.cases) in (
      (λ e. here ∙ ap Some (c.is_applied.ensures.0 e)),
      (λ e. c.is_applied.ensures.1 (same_Some _ c.args.u.now (sym here ∙ e))),
    )

pub returns-then-f-g : goal.returns-then-f-g
returns-then-f-g t c = (
  (λ e. absurd (false≢true e)),
  (λ e. absurd (c.if-f-g.true (meets _ _ _ _ _ _ _ _ _ _ _ _ _ _ c.in-Some.ensures.cases.0 c.in-App-App.is-0 c.in-App-App.is-1 c.as_slice-args.ensures c.as_slice-others.ensures e).same)),
)

pub returns-then-not-is_beside : goal.returns-then-not-is_beside
returns-then-not-is_beside t c = (
  (λ e. absurd (false≢true e)),
  (λ e. c.if-not-is_beside.ensures.1
      (subst (λ k. IsBeside k c.args.r.now c.as_slice-args.result.now c.as_slice-others.result.now) (sym c.from-place.ensures)
      (meets _ _ _ _ _ _ _ _ _ _ _ _ _ _ c.in-Some.ensures.cases.0 c.in-App-App.is-0 c.in-App-App.is-1 c.as_slice-args.ensures c.as_slice-others.ensures e).beside)),
)

pub returns-else-not-is_beside : goal.returns-else-not-is_beside
returns-else-not-is_beside t c =
    let b : IsBeside c.from-place.result c.args.r.now c.as_slice-args.result.now c.as_slice-others.result.now = c.if-not-is_beside.ensures.0 refl in
    let here = subst (λ k. slice_get c.as_slice-args.result.now k ≡ Some c.index-args-place.result) c.from-place.ensures (got c.as_slice-args.result.now c.from-place.result c.index-args-place.result b.within c.index-args-place.is) in
    let there = subst (λ k. slice_get c.as_slice-others.result.now k ≡ Some c.index-others-place.result) c.from-place.ensures (got c.as_slice-others.result.now c.from-place.result c.index-others-place.result (omega (arith, b.within, b.as_many)) c.index-others-place.is) in (
      (λ e. joins _ _ _ _ _ _ _ _ _ _ _ _ _ _ _ _ c.in-Some.ensures.cases.0 c.in-App-App.is-0 c.in-App-App.is-1 c.as_slice-args.ensures c.as_slice-others.ensures c.if-f-g.false
          (subst (λ k. IsBeside k c.args.r.now c.as_slice-args.result.now c.as_slice-others.result.now) c.from-place.ensures b) here there (c.is_replaced.ensures.0 e)),
      (λ e. c.is_replaced.ensures.1 ((meets _ _ _ _ _ _ _ _ _ _ _ _ _ _ c.in-Some.ensures.cases.0 c.in-App-App.is-0 c.in-App-App.is-1 c.as_slice-args.ensures c.as_slice-others.ensures e).inside _ _ here there)),
    )

pub returns-in_default-2 : goal.returns-in_default-2
returns-in_default-2 t c = (
  (λ e. absurd (false≢true e)),
  (λ e. absurd (result_apart _ _ _ _ _ _ _ _ c.in-Some.ensures.cases.0 (e ∙ ap Some c.in_default-2.is-1))),
)

pub returns-in_default-2-2 : goal.returns-in_default-2-2
returns-in_default-2-2 t c = (
  (λ e. absurd (false≢true e)),
  (λ e. let none : replaced_under c.args.r.now c.args.s.now c.args.path.now c.args.new.now c.args.t.now ≡ None = under-Var _ _ _ _ _ _ _ _ c.in-Some.ensures.cases.0 c.in_default-2.is-0 in absurd (cc (none, e))),
)
