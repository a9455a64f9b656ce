use Rattle.cd_term.specs.Terms.{applied}
use Rattle.cd_clause.specs.Clauses.{literal_size, literal_depth, literal_changed}
use Rattle.cd_clause.proofs.LimitLemmas.{next_within, outside_within, whole_within, at_changed, below_changed, past_changed}
use Rattle.cd_clause.proofs.limits.measure_literals.Goals as goal

pub returns-in_default : goal.returns-in_default
returns-in_default c =
    let h = literal_changed (applied c.args.s.now) in
    outside_within literal_size literal_depth _ _ _ _ _ _ (below_changed h _ _ c.loop-literal-test.true)
    (at_changed h _ _ _ c.loop-literal-test.true c.literal-item.is) c.loop-literal.invariant.total_is c.in_default.ensures

pub loop-literal-preserved : goal.loop-literal-preserved
loop-literal-preserved c =
    let h = literal_changed (applied c.args.s.now) in
    let m = c.in-Some.ensures in
    let next = next_within literal_size literal_depth _ _ _ _ _ _ _ (below_changed h _ _ c.loop-literal-test.true)
    (at_changed h _ _ _ c.loop-literal-test.true c.literal-item.is) c.loop-literal.invariant.total_is c.loop-literal.invariant.few
    c.loop-literal.invariant.flat m.0 m.1.0 m.1.1 in
    record { total_is = next.0; few = next.1; flat = next.2 }

pub returns : goal.returns
returns c =
    whole_within literal_size literal_depth _ _ _ _ _ (past_changed (literal_changed (applied c.args.s.now)) _ _ c.loop-literal-test.false)
    c.loop-literal.invariant.total_is c.loop-literal.invariant.few c.loop-literal.invariant.flat
