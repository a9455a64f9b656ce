use Rattle.std.proofs.Common.{◌∙◌, sym, ap, refl, arith}
use Rattle.cd_kbo.specs.Sides.{term_of}
use Rattle.cd_kbo.specs.Kbo.{ground_compare}
use Rattle.cd_kbo.proofs.Arguments.{side_below, side_small, read_weight}
use Rattle.cd_kbo.proofs.PassLemmas.{inside, past_right, heads_answer, total_is, arguments_answer, weighed_more, walked_more}
use Rattle.cd_kbo.proofs.ground.+walk.Goals as goal

pub returns-then-is_ne-clause-answer : goal.returns-then-is_ne-clause-answer
returns-then-is_ne-clause-answer t c = heads_answer c.args.order.now (term_of c.args.s) (term_of c.args.t) c.in-Symbol-Symbol.f c.in-Symbol-Symbol.g c.in-Symbol-Symbol.args.now c.in-Symbol-Symbol.others.now _ _ _ _ _ (record {
  left = ap term_of c.in-Symbol-Symbol.is-0;
  right = ap term_of c.in-Symbol-Symbol.is-1;
  answers = c.head_cmp-heads.ensures;
})
    (sym c.is_ne.ensures ∙ c.if-is_ne.true) c.requires.left c.requires.right c.weight-left.ensures c.weight-right.ensures c.cmp.ensures c.then.ensures

pub loop-i-preserved-then-is_ne-2 : goal.loop-i-preserved-then-is_ne-2
loop-i-preserved-then-is_ne-2 t c = weighed_more c.args.order.now c.in-Symbol-Symbol.args.now c.in-Symbol-Symbol.others.now _ _ _ _ _ _ _ _ _ _ c.loop-i-test.true (inside c.args.order.now (term_of c.args.s) (term_of c.args.t) c.in-Symbol-Symbol.f c.in-Symbol-Symbol.g c.in-Symbol-Symbol.args.now c.in-Symbol-Symbol.others.now c.in-Symbol-Symbol.args.now c.in-Symbol-Symbol.others.now _ _ (record {
  left = ap term_of c.in-Symbol-Symbol.is-0;
  right = ap term_of c.in-Symbol-Symbol.is-1;
  answers = c.head_cmp-heads.ensures;
})
    (sym c.is_ne.ensures ∙ c.if-is_ne.false) refl refl c.loop-i-test.true)
    c.index-args-i.is c.index-others-i.is c.loop-i.invariant (sym c.is_ne-in-loop-i.ensures ∙ c.if-is_ne-2.true)
    (read_weight c.args.order.now _ _ _ c.of.ensures c.weight.ensures) (read_weight c.args.order.now _ _ _ c.of-then-is_ne-2.ensures c.weight-then-is_ne-2.ensures)
    c.saturating_add-left.ensures c.saturating_add-right.ensures

pub walk-one-requires : goal.walk-one-requires
walk-one-requires t c = (
  omega (
    arith,
    side_below (term_of c.args.s) (term_of c.of-in-loop-i.result) c.index-args-i.result c.in-Symbol-Symbol.f c.in-Symbol-Symbol.args.now c.loop-i.i
        (ap term_of c.in-Symbol-Symbol.is-0) c.loop-i-test.true c.index-args-i.is c.of-in-loop-i.ensures,
  ),
  (
    side_small (term_of c.args.s) _ _ c.in-Symbol-Symbol.f c.in-Symbol-Symbol.args.now _ _ (ap term_of c.in-Symbol-Symbol.is-0) c.loop-i-test.true c.index-args-i.is c.of-in-loop-i.ensures c.requires.left,
    side_small (term_of c.args.t) _ _ c.in-Symbol-Symbol.g c.in-Symbol-Symbol.others.now _ _ (ap term_of c.in-Symbol-Symbol.is-1) (inside c.args.order.now (term_of c.args.s) (term_of c.args.t) c.in-Symbol-Symbol.f c.in-Symbol-Symbol.g c.in-Symbol-Symbol.args.now c.in-Symbol-Symbol.others.now c.in-Symbol-Symbol.args.now c.in-Symbol-Symbol.others.now _ _ (record {
      left = ap term_of c.in-Symbol-Symbol.is-0;
      right = ap term_of c.in-Symbol-Symbol.is-1;
      answers = c.head_cmp-heads.ensures;
    })
        (sym c.is_ne.ensures ∙ c.if-is_ne.false) refl refl c.loop-i-test.true)
        c.index-others-i.is c.of-in-loop-i-2.ensures c.requires.right,
  ),
)

pub loop-i-preserved : goal.loop-i-preserved
loop-i-preserved t c = walked_more c.args.order.now c.in-Symbol-Symbol.args.now c.in-Symbol-Symbol.others.now _ _ _ _ _ _ _ _ _ _ _ c.loop-i-test.true (inside c.args.order.now (term_of c.args.s) (term_of c.args.t) c.in-Symbol-Symbol.f c.in-Symbol-Symbol.g c.in-Symbol-Symbol.args.now c.in-Symbol-Symbol.others.now c.in-Symbol-Symbol.args.now c.in-Symbol-Symbol.others.now _ _ (record {
  left = ap term_of c.in-Symbol-Symbol.is-0;
  right = ap term_of c.in-Symbol-Symbol.is-1;
  answers = c.head_cmp-heads.ensures;
})
    (sym c.is_ne.ensures ∙ c.if-is_ne.false) refl refl c.loop-i-test.true)
    c.index-args-i.is c.index-others-i.is c.loop-i.invariant (sym c.is_ne-in-loop-i.ensures ∙ c.if-is_ne-2.false)
    (c.walk-one.ensures.answer ∙ (λ i. ground_compare c.args.order.now (c.of-in-loop-i.ensures i) (c.of-in-loop-i-2.ensures i)))
    (read_weight c.args.order.now _ _ _ c.of-in-loop-i.ensures c.walk-one.ensures.left) (read_weight c.args.order.now _ _ _ c.of-in-loop-i-2.ensures c.walk-one.ensures.right)
    c.saturating_add-left-in-loop-i.ensures c.saturating_add-right-in-loop-i.ensures

pub returns-after-loop-i-clause-answer : goal.returns-after-loop-i-clause-answer
returns-after-loop-i-clause-answer t c = arguments_answer c.args.order.now (term_of c.args.s) (term_of c.args.t) c.in-Symbol-Symbol.f c.in-Symbol-Symbol.g c.in-Symbol-Symbol.args.now c.in-Symbol-Symbol.others.now c.in-Symbol-Symbol.args.now c.in-Symbol-Symbol.others.now _ _ _ _ _ _ _ (record {
  left = ap term_of c.in-Symbol-Symbol.is-0;
  right = ap term_of c.in-Symbol-Symbol.is-1;
  answers = c.head_cmp-heads.ensures;
})
    (sym c.is_ne.ensures ∙ c.if-is_ne.false) c.requires.left c.requires.right refl refl c.loop-i-test.false c.loop-i.invariant.answers
    (total_is c.args.order.now _ c.in-Symbol-Symbol.f c.in-Symbol-Symbol.args.now c.in-Symbol-Symbol.args.now _ _ _ _ (ap term_of c.in-Symbol-Symbol.is-0) refl c.loop-i-test.false c.loop-i.invariant.lefts c.symbol_weight.ensures
    c.saturating_add-left-in-Symbol-Symbol.ensures)
    (total_is c.args.order.now _ c.in-Symbol-Symbol.g c.in-Symbol-Symbol.others.now c.in-Symbol-Symbol.others.now _ _ _ _ (ap term_of c.in-Symbol-Symbol.is-1) refl (past_right c.args.order.now (term_of c.args.s) (term_of c.args.t) c.in-Symbol-Symbol.f c.in-Symbol-Symbol.g c.in-Symbol-Symbol.args.now c.in-Symbol-Symbol.others.now c.in-Symbol-Symbol.args.now c.in-Symbol-Symbol.others.now _ _ (record {
      left = ap term_of c.in-Symbol-Symbol.is-0;
      right = ap term_of c.in-Symbol-Symbol.is-1;
      answers = c.head_cmp-heads.ensures;
    })
    (sym c.is_ne.ensures ∙ c.if-is_ne.false) refl refl c.loop-i-test.false)
    c.loop-i.invariant.rights c.symbol_weight-in-Symbol-Symbol.ensures c.saturating_add-right-in-Symbol-Symbol.ensures)
    c.cmp-in-Symbol-Symbol.ensures c.then-in-Symbol-Symbol.ensures

pub returns-after-loop-i-clause-left : goal.returns-after-loop-i-clause-left
returns-after-loop-i-clause-left t c = total_is c.args.order.now _ c.in-Symbol-Symbol.f c.in-Symbol-Symbol.args.now c.in-Symbol-Symbol.args.now _ _ _ _ (ap term_of c.in-Symbol-Symbol.is-0) refl c.loop-i-test.false c.loop-i.invariant.lefts c.symbol_weight.ensures
    c.saturating_add-left-in-Symbol-Symbol.ensures

pub returns-after-loop-i-clause-right : goal.returns-after-loop-i-clause-right
returns-after-loop-i-clause-right t c = total_is c.args.order.now _ c.in-Symbol-Symbol.g c.in-Symbol-Symbol.others.now c.in-Symbol-Symbol.others.now _ _ _ _ (ap term_of c.in-Symbol-Symbol.is-1) refl (past_right c.args.order.now (term_of c.args.s) (term_of c.args.t) c.in-Symbol-Symbol.f c.in-Symbol-Symbol.g c.in-Symbol-Symbol.args.now c.in-Symbol-Symbol.others.now c.in-Symbol-Symbol.args.now c.in-Symbol-Symbol.others.now _ _ (record {
  left = ap term_of c.in-Symbol-Symbol.is-0;
  right = ap term_of c.in-Symbol-Symbol.is-1;
  answers = c.head_cmp-heads.ensures;
})
    (sym c.is_ne.ensures ∙ c.if-is_ne.false) refl refl c.loop-i-test.false)
    c.loop-i.invariant.rights c.symbol_weight-in-Symbol-Symbol.ensures c.saturating_add-right-in-Symbol-Symbol.ensures
