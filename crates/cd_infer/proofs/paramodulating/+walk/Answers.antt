use Rattle.std.proofs.Common.{ℕ, ◌+◌, List, [], ◌∷◌, ◌++◌, ap, ◌∙◌, sym, subst, arith, append_assoc}
use Rattle.cd_infer.specs.Paths.{walked, paths_from}
use Rattle.cd_infer.specs.Conclusions.{PairGives, PairCan, IsWithin, Enters, para}
use Rattle.cd_infer.proofs.Listing.{adds_to, gathers_err}
use Rattle.cd_infer.proofs.PathLemmas.{walked_variable, arguments_smaller, many_of}
use Rattle.cd_infer.proofs.WalkLemmas.{adds_symbol, overflow_here, overflow_below, cut_back}
use Rattle.cd_infer.proofs.paramodulating.+walk.Goals as goal

pub loop-k-preserved-in_default : goal.loop-k-preserved-in_default
loop-k-preserved-in_default t c = record {
  same = c.loop-k.invariant.same;
  found_is = adds_to (PairGives c.args.two.now.order.now c.args.two.now.a_name c.args.two.now.a.now c.args.two.now.b_name c.args.two.now.b.now) (PairCan c.args.two.now.order.now c.args.two.now.a.now c.args.two.now.b.now) IsWithin _ _ _ _
      (sym (walked_variable (para c.args.places.i c.args.places.s c.args.places.j) c.args.path.now c.args.first c.args.terms.now c.loop-k.k c.index-terms-k.result c.in_default.field-0 c.loop-k-test.true c.index-terms-k.is c.in_default.is))
      c.loop-k.invariant.found_is;
}

pub returns-in-Err-clause-found : goal.returns-in-Err-clause-found
returns-in-Err-clause-found t c =
    gathers_err (PairGives c.args.two.now.order.now c.args.two.now.a_name c.args.two.now.a.now c.args.two.now.b_name c.args.two.now.b.now) (PairCan c.args.two.now.order.now c.args.two.now.a.now c.args.two.now.b.now) IsWithin ℕ ℕ (para c.args.places.i c.args.places.s c.args.places.j c.as_slice.result.now ∷ []) (walked (para c.args.places.i c.args.places.s c.args.places.j) c.args.path.now (paths_from c.args.first c.args.terms.now)) [] [] [] [] c.in-Err.fault
    (overflow_here (PairGives c.args.two.now.order.now c.args.two.now.a_name c.args.two.now.a.now c.args.two.now.b_name c.args.two.now.b.now) (PairCan c.args.two.now.order.now c.args.two.now.a.now c.args.two.now.b.now) IsWithin (para c.args.places.i c.args.places.s c.args.places.j) c.args.path.now c.as_slice.result.now c.args.first c.args.terms.now c.loop-k.k c.index-terms-k.result _ _ c.loop-k-test.true c.index-terms-k.is c.in-App.is
    (c.as_slice.ensures ∙ (c.in_ok-push.ensures.ok ∙ ap (λ (q : List ℕ). q ++ (c.args.first + c.loop-k.k) ∷ []) c.loop-k.invariant.same)))
    c.in-Err.ensures

pub walk-requires : goal.walk-requires
walk-requires t c =
    let smaller = arguments_smaller c.args.terms.now c.loop-k.k c.index-terms-k.result _ c.in-App.args c.as_slice-in-loop-k.result.now c.loop-k-test.true c.index-terms-k.is c.in-App.is c.as_slice-in-loop-k.ensures in (
      omega (arith, smaller),
      (
        c.requires.giving,
        (
          (λ k rest lt. subst (λ (q : List ℕ). Enters c.args.two.now.order.now c.args.two.now.b.now c.args.places.j q)
              (sym (ap (λ (q : List ℕ). q ++ (0 + k) ∷ rest) (c.in_ok-push.ensures.ok ∙ ap (λ (q : List ℕ). q ++ (c.args.first + c.loop-k.k) ∷ []) c.loop-k.invariant.same) ∙ append_assoc c.args.path.now ((c.args.first + c.loop-k.k) ∷ []) ((0 + k) ∷ rest)))
              (c.requires.enters c.loop-k.k ((0 + k) ∷ rest) c.loop-k-test.true)),
          (
            omega (arith, smaller, many_of c.as_slice-in-loop-k.result.now, c.requires.small),
            omega (arith, smaller, c.requires.small),
          ),
        ),
      ),
    )

pub returns-in-Err-walk-clause-found : goal.returns-in-Err-walk-clause-found
returns-in-Err-walk-clause-found t c =
    gathers_err (PairGives c.args.two.now.order.now c.args.two.now.a_name c.args.two.now.a.now c.args.two.now.b_name c.args.two.now.b.now) (PairCan c.args.two.now.order.now c.args.two.now.a.now c.args.two.now.b.now) IsWithin ℕ ℕ (walked (para c.args.places.i c.args.places.s c.args.places.j) c.push.new.self (paths_from 0 c.as_slice-in-loop-k.result.now)) (walked (para c.args.places.i c.args.places.s c.args.places.j) c.args.path.now (paths_from c.args.first c.args.terms.now)) [] [] [] [] c.in-Err-walk.fault
    (overflow_below (PairGives c.args.two.now.order.now c.args.two.now.a_name c.args.two.now.a.now c.args.two.now.b_name c.args.two.now.b.now) (PairCan c.args.two.now.order.now c.args.two.now.a.now c.args.two.now.b.now) IsWithin (para c.args.places.i c.args.places.s c.args.places.j) c.args.path.now c.push.new.self c.args.first c.args.terms.now c.loop-k.k c.index-terms-k.result _ _ c.as_slice-in-loop-k.result.now c.loop-k-test.true c.index-terms-k.is c.in-App.is
    (c.in_ok-push.ensures.ok ∙ ap (λ (q : List ℕ). q ++ (c.args.first + c.loop-k.k) ∷ []) c.loop-k.invariant.same) c.as_slice-in-loop-k.ensures)
    c.in-Err-walk.ensures.found

pub loop-k-preserved : goal.loop-k-preserved
loop-k-preserved t c = record {
  same = cut_back c.args.path.now c.push.new.self _ _ (c.args.first + c.loop-k.k) _ (c.in_ok-push.ensures.ok ∙ ap (λ (q : List ℕ). q ++ (c.args.first + c.loop-k.k) ∷ []) c.loop-k.invariant.same) c.in_default-walk.ensures.path c.len-length.ensures.value c.truncate.ensures;
  found_is = adds_symbol (PairGives c.args.two.now.order.now c.args.two.now.a_name c.args.two.now.a.now c.args.two.now.b_name c.args.two.now.b.now) (PairCan c.args.two.now.order.now c.args.two.now.a.now c.args.two.now.b.now) IsWithin (para c.args.places.i c.args.places.s c.args.places.j) c.args.path.now c.as_slice.result.now c.push.new.self c.args.first c.args.terms.now c.loop-k.k c.index-terms-k.result _ _ c.as_slice-in-loop-k.result.now _ _ _ _ c.loop-k-test.true c.index-terms-k.is c.in-App.is
      (c.as_slice.ensures ∙ (c.in_ok-push.ensures.ok ∙ ap (λ (q : List ℕ). q ++ (c.args.first + c.loop-k.k) ∷ []) c.loop-k.invariant.same)) (c.in_ok-push.ensures.ok ∙ ap (λ (q : List ℕ). q ++ (c.args.first + c.loop-k.k) ∷ []) c.loop-k.invariant.same) c.as_slice-in-loop-k.ensures
      c.loop-k.invariant.found_is c.in_default-para_at.ensures c.in_default-walk.ensures.found;
}
