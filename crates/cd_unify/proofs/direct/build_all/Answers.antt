use Rattle.std.proofs.Common.{map, ◌∙◌}
use Rattle.std.proofs.lemmas.List.{take_all}
use Rattle.cd_term.specs.Terms.{substituted, ranked}
use Rattle.cd_term.proofs.Measures.{at_map, below_map, past_map}
use Rattle.cd_unify.specs.Unifiers.{raised}
use Rattle.cd_unify.specs.Direct.{bound_to, resolved}
use Rattle.cd_unify.proofs.DirectEnds.{built_next}
use Rattle.cd_unify.proofs.direct.build_all.Goals as goal

pub loop-term-preserved : goal.loop-term-preserved
loop-term-preserved c = λ n le.
    let r = raised 0 in
    let h = substituted (resolved (bound_to c.args.values.now) n) in
    let s = substituted (ranked c.args.order.now) in
    let lt = c.loop-term-test.true in
    built_next (map s (map h (map r c.args.terms.now))) c.loop-term.term-index (s (h (r c.term-item.result))) c.in_ok-build.field-0 c.loop-term.built c.push.new.self
    (below_map s _ _ (below_map h _ _ (below_map r _ _ lt)))
    (at_map s _ _ _ (below_map h _ _ (below_map r _ _ lt)) (at_map h _ _ _ (below_map r _ _ lt) (at_map r _ _ _ lt c.term-item.is)))
    (c.in_ok-build.ensures n le) (c.loop-term.invariant n le) c.in_ok-push.ensures.ok

pub returns : goal.returns
returns c = λ n le.
    let r = raised 0 in
    let h = substituted (resolved (bound_to c.args.values.now) n) in
    let s = substituted (ranked c.args.order.now) in
    c.loop-term.invariant n le ∙ take_all c.loop-term.term-index (map s (map h (map r c.args.terms.now)))
    (past_map s _ _ (past_map h _ _ (past_map r _ _ c.loop-term-test.false)))
