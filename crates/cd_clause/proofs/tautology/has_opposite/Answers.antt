use Rattle.std.proofs.Common.{refl}
use Rattle.std.proofs.lemmas.Bool.{false≢true}
use Rattle.cd_clause.specs.Clauses.{AreOpposite}
use Rattle.cd_clause.proofs.TautologyLemmas.{negative_none}
use Rattle.cd_list.proofs.Among.{among_read, among_next, among_none}
use Rattle.cd_clause.proofs.tautology.has_opposite.Goals as goal

pub returns-then-are_opposite : goal.returns-then-are_opposite
returns-then-are_opposite c =
    (λ e. among_read (AreOpposite c.args.l.now) _ _ _ c.loop-other-test.true c.other-item.is (c.if-are_opposite.ensures.0 refl), λ some. refl)

pub loop-other-preserved : goal.loop-other-preserved
loop-other-preserved c = λ some.
    among_next (AreOpposite c.args.l.now) _ _ _ c.loop-other-test.true c.other-item.is (λ p. false≢true (c.if-are_opposite.ensures.1 p)) (c.loop-other.invariant some)

pub returns : goal.returns
returns c =
    (λ e. absurd (false≢true e), λ some. absurd (among_none (AreOpposite c.args.l.now) _ _ c.loop-other-test.false (c.loop-other.invariant some)))

pub returns-then-not-l : goal.returns-then-not-l
returns-then-not-l c =
    (λ e. absurd (false≢true e), λ some. absurd (negative_none c.args.l.now c.args.others.now c.if-not-l.true some))
