use Rattle.std.proofs.Common.{arith, map}
use Rattle.cd_term.specs.Terms.{substituted}
use Rattle.cd_term.proofs.Measures.{at_map, below_map, past_map}
use Rattle.cd_unify.specs.Unifiers.{raised}
use Rattle.cd_unify.specs.Direct.{bound_to, resolved}
use Rattle.cd_unify.proofs.DirectEnds.{some_at, survey_next, survey_list}
use Rattle.cd_unify.proofs.direct.survey_all.Goals as goal

pub loop-term-preserved : goal.loop-term-preserved
loop-term-preserved c =
    let r = raised 0 in
    let lt = c.loop-term-test.true in
    record {
      few = omega (arith, some_at _ _ _ c.in_ok-more.ensures.few c.in-Some.is, c.loop-term.invariant.few);
      surveyed = λ n le.
          let h = substituted (resolved (bound_to c.args.values.now) n) in
          survey_next (map h (map r c.args.terms.now)) c.loop-term.term-index 0 c.loop-term.total 65535 1000 c.in-Some.more
          (h (r c.term-item.result)) c.args.seen.now c.loop-term.seen c.survey.new.seen
          (below_map h _ _ (below_map r _ _ lt)) (at_map h _ _ _ (below_map r _ _ lt) (at_map r _ _ _ lt c.term-item.is)) c.loop-term.invariant.few
          (c.loop-term.invariant.surveyed n le) (some_at _ _ _ c.in_ok-more.ensures.surveyed c.in-Some.is n le);
    }

pub returns : goal.returns
returns c = λ n le.
    let r = raised 0 in
    let h = substituted (resolved (bound_to c.args.values.now) n) in
    survey_list (map h (map r c.args.terms.now)) c.loop-term.term-index c.loop-term.total 65535 1000 c.args.seen.now c.loop-term.seen
    (past_map h _ _ (past_map r _ _ c.loop-term-test.false)) c.loop-term.invariant.few (c.loop-term.invariant.surveyed n le)
