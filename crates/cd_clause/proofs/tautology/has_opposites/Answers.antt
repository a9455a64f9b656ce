use Rattle.std.proofs.Common.{refl}
use Rattle.std.proofs.lemmas.Bool.{false≢true}
use Rattle.cd_clause.specs.Clauses.{AreOpposite}
use Rattle.cd_list.specs.Lists.{Among}
use Rattle.cd_list.proofs.Among.{among_read, among_next, among_none}
use Rattle.cd_clause.proofs.tautology.has_opposites.Goals as goal

pub returns-then-has_opposite : goal.returns-then-has_opposite
returns-then-has_opposite c =
    (λ e. among_read (λ m. Among (AreOpposite m) c.args.literals.now) _ _ _ c.loop-literal-test.true c.literal-item.is (c.if-has_opposite.ensures.0 refl), λ some. refl)

pub loop-literal-preserved : goal.loop-literal-preserved
loop-literal-preserved c = λ some.
    among_next (λ m. Among (AreOpposite m) c.args.literals.now) _ _ _ c.loop-literal-test.true c.literal-item.is (λ p. false≢true (c.if-has_opposite.ensures.1 p)) (c.loop-literal.invariant some)

pub returns : goal.returns
returns c =
    (λ e. absurd (false≢true e), λ some. absurd (among_none (λ m. Among (AreOpposite m) c.args.literals.now) _ _ c.loop-literal-test.false (c.loop-literal.invariant some)))
