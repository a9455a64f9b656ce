use Rattle.std.proofs.Common.{◌∙◌, ℕ, ◌+◌, ◌<◌, ◌≤◌, false, length, get_or, take, sym, ap, arith}
use Rattle.cd_term.specs.declared.Term.TheVariants.{App}
use Rattle.cd_kbo.specs.Sides.{term_of}
use Rattle.cd_kbo.specs.Blocks.{InBlock}
use Rattle.cd_kbo.specs.Kbo.{weight_of, occurrences}
use Rattle.cd_kbo.proofs.Arguments.{side_below, side_small, grown, counted, weighed_all, counted_all, weight_known}
use Rattle.cd_kbo.proofs.TableLemmas.{tables_cover, covers_tables, room_inside, alike_inside}
use Rattle.cd_kbo.proofs.WalkLemmas.{judged, at_symbols, heads_decide, heads_many, heads_symbol, compared_past, compared_seen, arguments_same, arguments_decide, variables_decide, variable_apart}
use Rattle.cd_kbo.proofs.knuth_bendix.+walk.Goals as goal
use Rattle.cd_kbo.proofs.knuth_bendix.+walk.Goals.{in_default-via-in-Symbol+in_default, in_default-via-in_default}

pub returns-then-is_ne-clause-greater : goal.returns-then-is_ne-clause-greater
returns-then-is_ne-clause-greater t c = judged (InBlock c.args.base) c.args.order.now (term_of c.args.s) (term_of c.args.t)
    ((k : ℕ) → k < 16 → get_or c.weigh-light.new.table k 0 ≤ get_or c.weigh-heavy.new.table k 0)
    c.decided.result c.is_lt.result c.weigh-heavy.result c.weigh-light.result c.decided.ensures
    (tables_cover c.args.base (term_of c.args.s) (term_of c.args.t) c.args.left.now c.args.right.now c.weigh-heavy.new.table c.weigh-light.new.table
    c.requires.alike c.requires.room_left c.requires.room_right c.weigh-heavy.ensures.table c.weigh-light.ensures.table)
    (covers_tables c.args.base (term_of c.args.s) (term_of c.args.t) c.args.left.now c.args.right.now c.weigh-heavy.new.table c.weigh-light.new.table
    c.requires.alike c.weigh-heavy.ensures.table c.weigh-light.ensures.table)
    (weight_known c.args.order.now (term_of c.args.s) _ c.requires.small_left c.weigh-heavy.ensures.weight) (weight_known c.args.order.now (term_of c.args.t) _ c.requires.small_right c.weigh-light.ensures.weight)
    (at_symbols (InBlock c.args.base) c.args.order.now c.is_lt.result (term_of c.args.s) (term_of c.args.t) (App c.in-Symbol-Symbol.f c.in-Symbol-Symbol.args.now) (App c.in-Symbol-Symbol.g c.in-Symbol-Symbol.others.now)
    (ap term_of c.in-Symbol-Symbol.is-0) (ap term_of c.in-Symbol-Symbol.is-1)
    (heads_decide (InBlock c.args.base) c.args.order.now c.in-Symbol-Symbol.f c.in-Symbol-Symbol.g c.in-Symbol-Symbol.args.now c.in-Symbol-Symbol.others.now c.head_cmp-heads.result c.is_lt.result c.head_cmp-heads.ensures
    (sym c.is_ne.ensures ∙ c.if-is_ne.true) c.is_lt.ensures))

pub loop-i-preserved-then-not-same : goal.loop-i-preserved-then-not-same
loop-i-preserved-then-not-same t c = record {
  compared = compared_past (InBlock c.args.base) c.args.order.now c.in-Symbol-Symbol.args.now c.in-Symbol-Symbol.others.now c.loop-i.i c.loop-i.same c.loop-i.above c.if-not-same.true c.loop-i.invariant.compared;
  heavy = grown (weight_of c.args.order.now) c.in-Symbol-Symbol.args.now _ _ _ _ _ _ c.loop-i-test.true c.index-args-i.is c.of.ensures
      c.loop-i.invariant.heavy c.weigh.ensures.weight c.saturating_add-heavy.ensures;
  light = grown (weight_of c.args.order.now) c.in-Symbol-Symbol.others.now _ _ _ _ _ _ (omega (arith, (heads_many c.args.order.now c.in-Symbol-Symbol.f c.in-Symbol-Symbol.g (length c.in-Symbol-Symbol.args.now) (length c.in-Symbol-Symbol.others.now) _ c.head_cmp-heads.ensures (sym c.is_ne.ensures ∙ c.if-is_ne.false)))) c.index-others-i.is c.of-then-not-same.ensures
      c.loop-i.invariant.light c.weigh-then-not-same.ensures.weight c.saturating_add-light.ensures;
  left = λ k lt. counted (occurrences (c.args.base + k)) c.in-Symbol-Symbol.args.now _ _ _ _ _ _ c.loop-i-test.true c.index-args-i.is c.of.ensures
      (c.loop-i.invariant.left k lt) (c.weigh.ensures.table k lt);
  right = λ k lt. counted (occurrences (c.args.base + k)) c.in-Symbol-Symbol.others.now _ _ _ _ _ _ (omega (arith, (heads_many c.args.order.now c.in-Symbol-Symbol.f c.in-Symbol-Symbol.g (length c.in-Symbol-Symbol.args.now) (length c.in-Symbol-Symbol.others.now) _ c.head_cmp-heads.ensures (sym c.is_ne.ensures ∙ c.if-is_ne.false)))) c.index-others-i.is c.of-then-not-same.ensures
      (c.loop-i.invariant.right k lt) (c.weigh-then-not-same.ensures.table k lt);
}

pub walk-one-requires : goal.walk-one-requires
walk-one-requires t c = (
  omega (
    arith,
    side_below (term_of c.args.s) (term_of c.of-in-loop-i.result) c.index-args-i.result c.in-Symbol-Symbol.f c.in-Symbol-Symbol.args.now c.loop-i.i
        (ap term_of c.in-Symbol-Symbol.is-0) c.loop-i-test.true c.index-args-i.is c.of-in-loop-i.ensures,
  ),
  (
    side_small (term_of c.args.s) _ _ c.in-Symbol-Symbol.f c.in-Symbol-Symbol.args.now _ _ (ap term_of c.in-Symbol-Symbol.is-0) c.loop-i-test.true c.index-args-i.is c.of-in-loop-i.ensures c.requires.small_left,
    (
      side_small (term_of c.args.t) _ _ c.in-Symbol-Symbol.g c.in-Symbol-Symbol.others.now _ _ (ap term_of c.in-Symbol-Symbol.is-1) (omega (arith, (heads_many c.args.order.now c.in-Symbol-Symbol.f c.in-Symbol-Symbol.g (length c.in-Symbol-Symbol.args.now) (length c.in-Symbol-Symbol.others.now) _ c.head_cmp-heads.ensures (sym c.is_ne.ensures ∙ c.if-is_ne.false)))) c.index-others-i.is c.of-in-loop-i-2.ensures c.requires.small_right,
      (
        λ k lt. alike_inside (c.args.base + k) (take c.loop-i.i c.in-Symbol-Symbol.args.now) (take c.loop-i.i c.in-Symbol-Symbol.others.now) _ _ _ _ (c.requires.alike k lt)
            (c.loop-i.invariant.compared.equal c.if-not-same.false) (c.loop-i.invariant.left k lt) (c.loop-i.invariant.right k lt),
        (
          λ k lt. room_inside (c.args.base + k) (term_of c.args.s) c.in-Symbol-Symbol.f c.in-Symbol-Symbol.args.now c.loop-i.i _ _ _ _ (ap term_of c.in-Symbol-Symbol.is-0) c.loop-i-test.true c.index-args-i.is c.of-in-loop-i.ensures
              (c.requires.room_left k lt) (c.loop-i.invariant.left k lt),
          λ k lt. room_inside (c.args.base + k) (term_of c.args.t) c.in-Symbol-Symbol.g c.in-Symbol-Symbol.others.now c.loop-i.i _ _ _ _ (ap term_of c.in-Symbol-Symbol.is-1) (omega (arith, (heads_many c.args.order.now c.in-Symbol-Symbol.f c.in-Symbol-Symbol.g (length c.in-Symbol-Symbol.args.now) (length c.in-Symbol-Symbol.others.now) _ c.head_cmp-heads.ensures (sym c.is_ne.ensures ∙ c.if-is_ne.false)))) c.index-others-i.is c.of-in-loop-i-2.ensures
              (c.requires.room_right k lt) (c.loop-i.invariant.right k lt),
        ),
      ),
    ),
  ),
)

pub loop-i-preserved : goal.loop-i-preserved
loop-i-preserved t c = record {
  compared = compared_seen (InBlock c.args.base) c.args.order.now c.in-Symbol-Symbol.args.now c.in-Symbol-Symbol.others.now c.loop-i.i _ _ _ _ _ _ c.loop-i-test.true (heads_many c.args.order.now c.in-Symbol-Symbol.f c.in-Symbol-Symbol.g (length c.in-Symbol-Symbol.args.now) (length c.in-Symbol-Symbol.others.now) _ c.head_cmp-heads.ensures (sym c.is_ne.ensures ∙ c.if-is_ne.false))
      c.index-args-i.is c.index-others-i.is (c.loop-i.invariant.compared.equal c.if-not-same.false) c.of-in-loop-i.ensures c.of-in-loop-i-2.ensures
      c.walk-one.ensures.same c.walk-one.ensures.greater;
  heavy = grown (weight_of c.args.order.now) c.in-Symbol-Symbol.args.now _ _ _ _ _ _ c.loop-i-test.true c.index-args-i.is c.of-in-loop-i.ensures
      c.loop-i.invariant.heavy c.walk-one.ensures.heavy c.saturating_add-heavy-in-loop-i.ensures;
  light = grown (weight_of c.args.order.now) c.in-Symbol-Symbol.others.now _ _ _ _ _ _ (omega (arith, (heads_many c.args.order.now c.in-Symbol-Symbol.f c.in-Symbol-Symbol.g (length c.in-Symbol-Symbol.args.now) (length c.in-Symbol-Symbol.others.now) _ c.head_cmp-heads.ensures (sym c.is_ne.ensures ∙ c.if-is_ne.false)))) c.index-others-i.is c.of-in-loop-i-2.ensures
      c.loop-i.invariant.light c.walk-one.ensures.light c.saturating_add-light-in-loop-i.ensures;
  left = λ k lt. counted (occurrences (c.args.base + k)) c.in-Symbol-Symbol.args.now _ _ _ _ _ _ c.loop-i-test.true c.index-args-i.is c.of-in-loop-i.ensures
      (c.loop-i.invariant.left k lt) (c.walk-one.ensures.left k lt);
  right = λ k lt. counted (occurrences (c.args.base + k)) c.in-Symbol-Symbol.others.now _ _ _ _ _ _ (omega (arith, (heads_many c.args.order.now c.in-Symbol-Symbol.f c.in-Symbol-Symbol.g (length c.in-Symbol-Symbol.args.now) (length c.in-Symbol-Symbol.others.now) _ c.head_cmp-heads.ensures (sym c.is_ne.ensures ∙ c.if-is_ne.false)))) c.index-others-i.is c.of-in-loop-i-2.ensures
      (c.loop-i.invariant.right k lt) (c.walk-one.ensures.right k lt);
}

pub returns-after-loop-i-clause-same : goal.returns-after-loop-i-clause-same
returns-after-loop-i-clause-same t c =
    let same = arguments_same (InBlock c.args.base) c.args.order.now c.in-Symbol-Symbol.f c.in-Symbol-Symbol.g c.in-Symbol-Symbol.args.now c.in-Symbol-Symbol.others.now c.loop-i.i c.loop-i.same c.loop-i.above
    (heads_symbol c.args.order.now c.in-Symbol-Symbol.f c.in-Symbol-Symbol.g (length c.in-Symbol-Symbol.args.now) (length c.in-Symbol-Symbol.others.now) _ c.head_cmp-heads.ensures (sym c.is_ne.ensures ∙ c.if-is_ne.false)) (heads_many c.args.order.now c.in-Symbol-Symbol.f c.in-Symbol-Symbol.g (length c.in-Symbol-Symbol.args.now) (length c.in-Symbol-Symbol.others.now) _ c.head_cmp-heads.ensures (sym c.is_ne.ensures ∙ c.if-is_ne.false)) c.loop-i-test.false c.loop-i.invariant.compared in
    (λ h. ap term_of c.in-Symbol-Symbol.is-0 ∙ same.0 h ∙ sym (ap term_of c.in-Symbol-Symbol.is-1), λ e. same.1 (sym (ap term_of c.in-Symbol-Symbol.is-0) ∙ e ∙ ap term_of c.in-Symbol-Symbol.is-1))

pub returns-after-loop-i-clause-greater : goal.returns-after-loop-i-clause-greater
returns-after-loop-i-clause-greater t c = judged (InBlock c.args.base) c.args.order.now (term_of c.args.s) (term_of c.args.t)
    ((k : ℕ) → k < 16 → get_or c.loop-i.right k 0 ≤ get_or c.loop-i.left k 0)
    c.decided-in-Symbol-Symbol.result c.loop-i.above c.saturating_add-heavy-in-Symbol-Symbol.result c.saturating_add-light-in-Symbol-Symbol.result c.decided-in-Symbol-Symbol.ensures
    (tables_cover c.args.base (term_of c.args.s) (term_of c.args.t) c.args.left.now c.args.right.now c.loop-i.left c.loop-i.right
    c.requires.alike c.requires.room_left c.requires.room_right (λ k lt. counted_all (c.args.base + k) (term_of c.args.s) c.in-Symbol-Symbol.f c.in-Symbol-Symbol.args.now c.loop-i.i _ _ (ap term_of c.in-Symbol-Symbol.is-0) c.loop-i-test.false (c.loop-i.invariant.left k lt)) (λ k lt. counted_all (c.args.base + k) (term_of c.args.t) c.in-Symbol-Symbol.g c.in-Symbol-Symbol.others.now c.loop-i.i _ _ (ap term_of c.in-Symbol-Symbol.is-1) (omega (arith, (heads_many c.args.order.now c.in-Symbol-Symbol.f c.in-Symbol-Symbol.g (length c.in-Symbol-Symbol.args.now) (length c.in-Symbol-Symbol.others.now) _ c.head_cmp-heads.ensures (sym c.is_ne.ensures ∙ c.if-is_ne.false)))) (c.loop-i.invariant.right k lt)))
    (covers_tables c.args.base (term_of c.args.s) (term_of c.args.t) c.args.left.now c.args.right.now c.loop-i.left c.loop-i.right
    c.requires.alike (λ k lt. counted_all (c.args.base + k) (term_of c.args.s) c.in-Symbol-Symbol.f c.in-Symbol-Symbol.args.now c.loop-i.i _ _ (ap term_of c.in-Symbol-Symbol.is-0) c.loop-i-test.false (c.loop-i.invariant.left k lt)) (λ k lt. counted_all (c.args.base + k) (term_of c.args.t) c.in-Symbol-Symbol.g c.in-Symbol-Symbol.others.now c.loop-i.i _ _ (ap term_of c.in-Symbol-Symbol.is-1) (omega (arith, (heads_many c.args.order.now c.in-Symbol-Symbol.f c.in-Symbol-Symbol.g (length c.in-Symbol-Symbol.args.now) (length c.in-Symbol-Symbol.others.now) _ c.head_cmp-heads.ensures (sym c.is_ne.ensures ∙ c.if-is_ne.false)))) (c.loop-i.invariant.right k lt)))
    (weight_known c.args.order.now (term_of c.args.s) _ c.requires.small_left (weighed_all c.args.order.now (term_of c.args.s) c.in-Symbol-Symbol.f c.in-Symbol-Symbol.args.now c.loop-i.i _ _ _ (ap term_of c.in-Symbol-Symbol.is-0) c.loop-i-test.false c.loop-i.invariant.heavy c.symbol_weight.ensures c.saturating_add-heavy-in-Symbol-Symbol.ensures)) (weight_known c.args.order.now (term_of c.args.t) _ c.requires.small_right (weighed_all c.args.order.now (term_of c.args.t) c.in-Symbol-Symbol.g c.in-Symbol-Symbol.others.now c.loop-i.i _ _ _ (ap term_of c.in-Symbol-Symbol.is-1) (omega (arith, (heads_many c.args.order.now c.in-Symbol-Symbol.f c.in-Symbol-Symbol.g (length c.in-Symbol-Symbol.args.now) (length c.in-Symbol-Symbol.others.now) _ c.head_cmp-heads.ensures (sym c.is_ne.ensures ∙ c.if-is_ne.false)))) c.loop-i.invariant.light c.symbol_weight-in-Symbol-Symbol.ensures c.saturating_add-light-in-Symbol-Symbol.ensures))
    (at_symbols (InBlock c.args.base) c.args.order.now c.loop-i.above (term_of c.args.s) (term_of c.args.t) (App c.in-Symbol-Symbol.f c.in-Symbol-Symbol.args.now) (App c.in-Symbol-Symbol.g c.in-Symbol-Symbol.others.now)
    (ap term_of c.in-Symbol-Symbol.is-0) (ap term_of c.in-Symbol-Symbol.is-1)
    (arguments_decide (InBlock c.args.base) c.args.order.now c.in-Symbol-Symbol.f c.in-Symbol-Symbol.g c.in-Symbol-Symbol.args.now c.in-Symbol-Symbol.others.now c.loop-i.i c.loop-i.same c.loop-i.above
    (heads_symbol c.args.order.now c.in-Symbol-Symbol.f c.in-Symbol-Symbol.g (length c.in-Symbol-Symbol.args.now) (length c.in-Symbol-Symbol.others.now) _ c.head_cmp-heads.ensures (sym c.is_ne.ensures ∙ c.if-is_ne.false)) (heads_many c.args.order.now c.in-Symbol-Symbol.f c.in-Symbol-Symbol.g (length c.in-Symbol-Symbol.args.now) (length c.in-Symbol-Symbol.others.now) _ c.head_cmp-heads.ensures (sym c.is_ne.ensures ∙ c.if-is_ne.false)) c.loop-i-test.false c.loop-i.invariant.compared))

pub returns-after-loop-i-clause-heavy : goal.returns-after-loop-i-clause-heavy
returns-after-loop-i-clause-heavy t c =
    weighed_all c.args.order.now (term_of c.args.s) c.in-Symbol-Symbol.f c.in-Symbol-Symbol.args.now c.loop-i.i _ _ _ (ap term_of c.in-Symbol-Symbol.is-0) c.loop-i-test.false c.loop-i.invariant.heavy c.symbol_weight.ensures c.saturating_add-heavy-in-Symbol-Symbol.ensures

pub returns-after-loop-i-clause-light : goal.returns-after-loop-i-clause-light
returns-after-loop-i-clause-light t c =
    weighed_all c.args.order.now (term_of c.args.t) c.in-Symbol-Symbol.g c.in-Symbol-Symbol.others.now c.loop-i.i _ _ _ (ap term_of c.in-Symbol-Symbol.is-1) (omega (arith, (heads_many c.args.order.now c.in-Symbol-Symbol.f c.in-Symbol-Symbol.g (length c.in-Symbol-Symbol.args.now) (length c.in-Symbol-Symbol.others.now) _ c.head_cmp-heads.ensures (sym c.is_ne.ensures ∙ c.if-is_ne.false)))) c.loop-i.invariant.light c.symbol_weight-in-Symbol-Symbol.ensures c.saturating_add-light-in-Symbol-Symbol.ensures

pub returns-after-loop-i-clause-left : goal.returns-after-loop-i-clause-left
returns-after-loop-i-clause-left t c = λ k lt.
    counted_all (c.args.base + k) (term_of c.args.s) c.in-Symbol-Symbol.f c.in-Symbol-Symbol.args.now c.loop-i.i _ _ (ap term_of c.in-Symbol-Symbol.is-0) c.loop-i-test.false (c.loop-i.invariant.left k lt)

pub returns-after-loop-i-clause-right : goal.returns-after-loop-i-clause-right
returns-after-loop-i-clause-right t c = λ k lt.
    counted_all (c.args.base + k) (term_of c.args.t) c.in-Symbol-Symbol.g c.in-Symbol-Symbol.others.now c.loop-i.i _ _ (ap term_of c.in-Symbol-Symbol.is-1) (omega (arith, (heads_many c.args.order.now c.in-Symbol-Symbol.f c.in-Symbol-Symbol.g (length c.in-Symbol-Symbol.args.now) (length c.in-Symbol-Symbol.others.now) _ c.head_cmp-heads.ensures (sym c.is_ne.ensures ∙ c.if-is_ne.false)))) (c.loop-i.invariant.right k lt)

pub returns-in_default-clause-greater : goal.returns-in_default-clause-greater
returns-in_default-clause-greater t c = judged (InBlock c.args.base) c.args.order.now (term_of c.args.s) (term_of c.args.t)
    ((k : ℕ) → k < 16 → get_or c.weigh-light-in_default.new.table k 0 ≤ get_or c.weigh-heavy-in_default.new.table k 0)
    c.decided-in_default.result false c.weigh-heavy-in_default.result c.weigh-light-in_default.result c.decided-in_default.ensures
    (tables_cover c.args.base (term_of c.args.s) (term_of c.args.t) c.args.left.now c.args.right.now c.weigh-heavy-in_default.new.table c.weigh-light-in_default.new.table
    c.requires.alike c.requires.room_left c.requires.room_right c.weigh-heavy-in_default.ensures.table c.weigh-light-in_default.ensures.table)
    (covers_tables c.args.base (term_of c.args.s) (term_of c.args.t) c.args.left.now c.args.right.now c.weigh-heavy-in_default.new.table c.weigh-light-in_default.new.table
    c.requires.alike c.weigh-heavy-in_default.ensures.table c.weigh-light-in_default.ensures.table)
    (weight_known c.args.order.now (term_of c.args.s) _ c.requires.small_left c.weigh-heavy-in_default.ensures.weight) (weight_known c.args.order.now (term_of c.args.t) _ c.requires.small_right c.weigh-light-in_default.ensures.weight)
    (λ covers. variables_decide (InBlock c.args.base) c.args.order.now (term_of c.args.s) (term_of c.args.t)
    (elim c.in_default.branch [
      | in_default-via-in-Symbol+in_default w ↦ λ f g ss ts p q. variable_apart (term_of c.args.t) _ g ts (ap term_of w.in_default.is-1) q
      | in_default-via-in_default w ↦ λ f g ss ts p q. variable_apart (term_of c.args.s) _ f ss (ap term_of w.in_default.is-0) p
    ]))
