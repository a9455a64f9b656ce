use Rattle.std.proofs.Common.{refl}
use Rattle.std.proofs.lemmas.Bool.{false≢true}
use Rattle.cd_clause.specs.Clauses.{IsSameLiteral}
use Rattle.cd_list.proofs.Among.{among_read, among_next, among_none}
use Rattle.cd_clause.proofs.tidying.is_among.Goals as goal

pub returns-then-is_same_literal : goal.returns-then-is_same_literal
returns-then-is_same_literal c =
    (λ e. among_read (IsSameLiteral c.args.l.now) _ _ _ c.loop-other-test.true c.other-item.is (c.if-is_same_literal.ensures.0 refl), λ some. refl)

pub loop-other-preserved : goal.loop-other-preserved
loop-other-preserved c = λ some.
    among_next (IsSameLiteral c.args.l.now) _ _ _ c.loop-other-test.true c.other-item.is (λ p. false≢true (c.if-is_same_literal.ensures.1 p)) (c.loop-other.invariant some)

pub returns : goal.returns
returns c =
    (λ e. absurd (false≢true e), λ some. absurd (among_none (IsSameLiteral c.args.l.now) _ _ c.loop-other-test.false (c.loop-other.invariant some)))
