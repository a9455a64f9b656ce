use Rattle.std.proofs.Common.{◌≡◌, arith, refl, slice_get, Some, subst, sym}
use Rattle.std.proofs.lemmas.Bool.{false≢true}
use Rattle.cd_term.specs.Instances.{IsBeside}
use Rattle.cd_term.proofs.Replacing.{got, beside_set}
use Rattle.cd_clause.proofs.PlaceLemmas.{pred_meets, pred_joins}
use Rattle.cd_clause.proofs.places.is_atom_replaced.Goals as goal

pub returns-then-not-is_beside : goal.returns-then-not-is_beside
returns-then-not-is_beside c = (
  (λ e. absurd (false≢true e)),
  (λ e. c.if-not-is_beside.ensures.1
      (subst (λ k. IsBeside k c.args.r.now c.as_slice-args.result.now c.as_slice-others.result.now) (sym c.from-place.ensures)
      (pred_meets _ _ _ _ _ _ _ _ _ _ _ _ _ _ c.in-Some.ensures.cases.0 c.in-Pred-Pred.is-0 c.in-Pred-Pred.is-1 c.as_slice-args.ensures c.as_slice-others.ensures e).beside)),
)

pub returns-else-not-is_beside : goal.returns-else-not-is_beside
returns-else-not-is_beside c =
    let ts = c.as_slice-args.result.now in let us = c.as_slice-others.result.now in
    let b : IsBeside c.from-place.result c.args.r.now ts us = c.if-not-is_beside.ensures.0 refl in
    let b' = subst (λ k. IsBeside k c.args.r.now ts us) c.from-place.ensures b in
    let here = subst (λ k. slice_get ts k ≡ Some c.index-args-place.result) c.from-place.ensures (got ts c.from-place.result c.index-args-place.result b.within c.index-args-place.is) in
    let there = subst (λ k. slice_get us k ≡ Some c.index-others-place.result) c.from-place.ensures (got us c.from-place.result c.index-others-place.result (omega (arith, b.within, b.as_many)) c.index-others-place.is) in (
      (λ e. pred_joins _ _ _ _ _ _ _ _ _ _ _ _ _ _ _ _ c.in-Some.ensures.cases.0 c.in-Pred-Pred.is-0 c.in-Pred-Pred.is-1 c.as_slice-args.ensures c.as_slice-others.ensures c.if-p-q.false
          (beside_set _ _ _ _ _ b' there) here (c.is_replaced.ensures.0 e)),
      (λ e. c.is_replaced.ensures.1 ((pred_meets _ _ _ _ _ _ _ _ _ _ _ _ _ _ c.in-Some.ensures.cases.0 c.in-Pred-Pred.is-0 c.in-Pred-Pred.is-1 c.as_slice-args.ensures c.as_slice-others.ensures e).inside _ _ here there)),
    )
