use Rattle.std.proofs.Common.{refl}
use Rattle.std.proofs.lemmas.Bool.{false≢true}
use Rattle.cd_clause.specs.Clauses.{IsTrivial}
use Rattle.cd_list.proofs.Among.{among_read, among_next, among_none}
use Rattle.cd_clause.proofs.tautology.has_trivial.Goals as goal

pub returns-then-is_trivial : goal.returns-then-is_trivial
returns-then-is_trivial c =
    (λ e. among_read IsTrivial _ _ _ c.loop-literal-test.true c.literal-item.is (c.if-is_trivial.ensures.0 refl), λ some. refl)

pub loop-literal-preserved : goal.loop-literal-preserved
loop-literal-preserved c = λ some.
    among_next IsTrivial _ _ _ c.loop-literal-test.true c.literal-item.is (λ p. false≢true (c.if-is_trivial.ensures.1 p)) (c.loop-literal.invariant some)

pub returns : goal.returns
returns c =
    (λ e. absurd (false≢true e), λ some. absurd (among_none IsTrivial _ _ c.loop-literal-test.false (c.loop-literal.invariant some)))
