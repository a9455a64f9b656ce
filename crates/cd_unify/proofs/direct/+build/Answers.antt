use Rattle.std.proofs.Common.{◌≡◌, ◌+◌, ap, arith, map}
use Rattle.cd_term.specs.Terms.{substituted, ranked}
use Rattle.cd_term.specs.declared.Term.TheVariants.{Var}
use Rattle.cd_term.proofs.Ranks.{rank_le}
use Rattle.cd_term.proofs.Measures.{at_map, below_map}
use Rattle.cd_unify.specs.Unifiers.{raised}
use Rattle.cd_unify.specs.Direct.{bound_to, resolved}
use Rattle.cd_unify.proofs.DirectEnds.{ok_as, resolves_on, built_next, built_here, built_symbol}
use Rattle.cd_unify.proofs.direct.+build.Goals as goal

pub overflow_cast-result : goal.overflow_cast-result
overflow_cast-result t c = omega (arith, rank_le c.args.order.now (c.args.start.up + c.in-Var.k), c.rank_of.ensures, c.requires.few)

pub loop-arg-preserved : goal.loop-arg-preserved
loop-arg-preserved t c = λ n le.
    let r = raised c.args.start.up in
    let h = substituted (resolved (bound_to c.args.values.now) n) in
    let s = substituted (ranked c.args.order.now) in
    let lt = c.loop-arg-test.true in
    built_next (map s (map h (map r c.as_slice-arg-items.result.now))) c.loop-arg.arg-index (s (h (r c.arg-item.result))) c.in_ok-build-in-App.field-0 c.loop-arg.built c.push.new.self
    (below_map s _ _ (below_map h _ _ (below_map r _ _ lt)))
    (at_map s _ _ _ (below_map h _ _ (below_map r _ _ lt)) (at_map h _ _ _ (below_map r _ _ lt) (at_map r _ _ _ lt c.arg-item.is)))
    (c.in_ok-build-in-App.ensures n le) (c.loop-arg.invariant n le) c.in_ok-push-in-App.ensures.ok

pub returns-in-Some : goal.returns-in-Some
returns-in-Some t c =
    ok_as _ _ _ (λ u. resolves_on c.args.values.now c.args.start c.in-Some.next c.in-Var.k c.args.levels _ (λ v. u ≡ substituted (ranked c.args.order.now) v) c.in-Var.is
    (omega (arith, c.if-place-values.false)) c.in-Some.is (omega (arith, c.if-levels-eq0.false))) c.build.ensures

pub returns-in-None : goal.returns-in-None
returns-in-None t c =
    built_here c.args.values.now c.args.start c.in-Var.k c.args.levels _ c.args.order.now (Var c.rank_of.result) c.in-Var.is
    (omega (arith, c.if-place-values.false)) c.in-None.is (ap Var c.rank_of.ensures)

pub returns-after-loop-arg : goal.returns-after-loop-arg
returns-after-loop-arg t c = λ n le.
    built_symbol (resolved (bound_to c.args.values.now) n) (ranked c.args.order.now) c.args.start c.in-App.f c.in-App.args c.as_slice-arg-items.result.now c.loop-arg.built c.loop-arg.arg-index
    c.in-App.is c.as_slice-arg-items.ensures c.loop-arg-test.false (c.loop-arg.invariant n (omega (arith, le)))
