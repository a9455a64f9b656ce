use Rattle.std.proofs.Common.{◌+◌, ◌-◌, ap, arith, map, refl, ◌∙◌}
use Rattle.cd_term.specs.declared.Term.TheVariants.{Var}
use Rattle.cd_term.specs.Terms.{substituted}
use Rattle.cd_term.proofs.Measures.{at_map, below_map, past_map}
use Rattle.cd_term.proofs.Firsts.{noted_new, noted_known}
use Rattle.cd_unify.specs.Unifiers.{raised}
use Rattle.cd_unify.specs.Direct.{bound_to, standing, resolved}
use Rattle.cd_unify.proofs.DirectLemmas.{value_symbol}
use Rattle.cd_unify.proofs.DirectEnds.{ok_as, some_as, some_at, surveyed_on, surveyed_here, survey_next, survey_symbol}
use Rattle.cd_unify.proofs.direct.+survey.Goals as goal

pub loop-arg-preserved : goal.loop-arg-preserved
loop-arg-preserved t c =
    let r = raised c.args.start.up in
    let lt = c.loop-arg-test.true in
    record {
      few = omega (arith, some_at _ _ _ c.in_ok-more-in-App.ensures.few c.in-Some-2.is, c.loop-arg.invariant.few);
      surveyed = λ n le.
          let h = substituted (resolved (bound_to c.args.values.now) n) in
          survey_next (map h (map r c.as_slice-arg-items.result.now)) c.loop-arg.arg-index 1 c.loop-arg.total c.args.symbols (c.args.levels - 1) c.in-Some-2.more
          (h (r c.arg-item.result)) c.args.seen.now c.loop-arg.seen c.survey-in-loop-arg.new.seen
          (below_map h _ _ (below_map r _ _ lt)) (at_map h _ _ _ (below_map r _ _ lt) (at_map r _ _ _ lt c.arg-item.is)) c.loop-arg.invariant.few
          (c.loop-arg.invariant.surveyed n le) (some_at _ _ _ c.in_ok-more-in-App.ensures.surveyed c.in-Some-2.is n le);
    }

pub returns-in-Some-clause-surveyed : goal.returns-in-Some-clause-surveyed
returns-in-Some-clause-surveyed t c =
    ok_as _ _ _ (λ o. some_as o _ _ (λ n. surveyed_on c.args.values.now c.args.start c.in-Some.next c.in-Var.k c.args.symbols c.args.levels n _ _ _ c.in-Var.is
    (omega (arith, c.if-place-values.false)) c.in-Some.is (omega (arith, c.if-levels-eq0.false)))) c.survey.ensures.surveyed

pub returns-in_ok-push-in-None-clause-surveyed : goal.returns-in_ok-push-in-None-clause-surveyed
returns-in_ok-push-in-None-clause-surveyed t c =
    surveyed_here c.args.values.now c.args.start c.in-Var.k c.args.symbols c.args.levels _ c.args.seen.now c.push.new.self c.in-Var.is
    (omega (arith, c.if-place-values.false)) c.in-None.is (omega (arith, c.if-symbols-eq0.false)) (omega (arith, c.if-levels-eq0.false))
    (c.in_ok-push-in-None.ensures.ok ∙ noted_new c.args.seen.now (c.args.start.up + c.in-Var.k) (Var (c.args.start.up + c.in-Var.k)) refl
    (cc (c.if-not-contains.ensures.value, c.as_slice.ensures)))

pub returns-else-not-contains-clause-surveyed : goal.returns-else-not-contains-clause-surveyed
returns-else-not-contains-clause-surveyed t c =
    surveyed_here c.args.values.now c.args.start c.in-Var.k c.args.symbols c.args.levels _ c.args.seen.now c.args.seen.now c.in-Var.is
    (omega (arith, c.if-place-values.false)) c.in-None.is (omega (arith, c.if-symbols-eq0.false)) (omega (arith, c.if-levels-eq0.false))
    (noted_known c.args.seen.now (c.args.start.up + c.in-Var.k) (Var (c.args.start.up + c.in-Var.k)) refl
    (cc (c.if-not-contains.ensures.value, c.as_slice.ensures)))

pub returns-after-loop-arg-clause-surveyed : goal.returns-after-loop-arg-clause-surveyed
returns-after-loop-arg-clause-surveyed t c = λ n le.
    let r = raised c.args.start.up in
    let h = substituted (resolved (bound_to c.args.values.now) n) in
    survey_symbol (h (standing c.args.start)) c.in-App.field-0 (map h (map r c.in-App.args)) (map h (map r c.as_slice-arg-items.result.now)) c.loop-arg.arg-index c.loop-arg.total
    c.args.symbols c.args.levels c.args.seen.now c.loop-arg.seen (value_symbol (resolved (bound_to c.args.values.now) n) c.args.start c.in-App.field-0 c.in-App.args c.in-App.is)
    (ap (λ us. map h (map r us)) c.as_slice-arg-items.ensures) (past_map h _ _ (past_map r _ _ c.loop-arg-test.false)) (omega (arith, c.if-levels-eq0.false))
    c.loop-arg.invariant.few (c.loop-arg.invariant.surveyed n (omega (arith, le)))
