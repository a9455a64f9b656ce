use Rattle.std.proofs.Common.{arith, refl}
use Rattle.std.proofs.lemmas.Bool.{false≢true}
use Rattle.cd_clause.proofs.AlikeLemmas.{left_out, left_out_is, rest_skip, rest_next, rest_over, rest_differs, rest_end, eq_tells}
use Rattle.cd_clause.proofs.tidiness.are_alike.Goals as goal

pub loop-i-preserved : goal.loop-i-preserved
loop-i-preserved c =
    rest_next _ _ c.args.literals.now c.args.others.now _ _ _ _ _ c.loop-i-test.true c.index-literals-i.is refl
    (λ out. false≢true (c.if-is_left_out.ensures.1 (left_out _ _ _ c.loop-i-test.true c.index-literals-i.is out))) (omega (arith, c.loop-i.invariant.0, c.if-j-others.false)) c.index-others-j.is (c.if-not-are_literals_alike.ensures.0 refl) c.loop-i.invariant

pub loop-i-preserved-then-is_left_out : goal.loop-i-preserved-then-is_left_out
loop-i-preserved-then-is_left_out c =
    rest_skip _ _ c.args.literals.now c.args.others.now _ _ _ _ c.loop-i-test.true c.index-literals-i.is refl
    (left_out_is _ _ _ c.loop-i-test.true c.index-literals-i.is (c.if-is_left_out.ensures.0 refl)) c.loop-i.invariant

pub returns-then-j-others : goal.returns-then-j-others
returns-then-j-others c = (
  (λ e. absurd (false≢true e)),
  (λ a. absurd (rest_over _ _ c.args.literals.now c.args.others.now _ _ _ _ c.loop-i-test.true c.index-literals-i.is refl
      (λ out. false≢true (c.if-is_left_out.ensures.1 (left_out _ _ _ c.loop-i-test.true c.index-literals-i.is out))) c.if-j-others.true c.loop-i.invariant a)),
)

pub returns-then-not-are_literals_alike : goal.returns-then-not-are_literals_alike
returns-then-not-are_literals_alike c = (
  (λ e. absurd (false≢true e)),
  (λ a. absurd (rest_differs _ _ c.args.literals.now c.args.others.now _ _ _ c.index-literals-i.result c.index-others-j.result c.loop-i-test.true c.index-literals-i.is refl
      (λ out. false≢true (c.if-is_left_out.ensures.1 (left_out _ _ _ c.loop-i-test.true c.index-literals-i.is out)))
      (omega (arith, c.loop-i.invariant.0, c.if-j-others.false)) c.index-others-j.is
      (λ same. false≢true (c.if-not-are_literals_alike.ensures.1 same)) c.loop-i.invariant a)),
)

pub returns : goal.returns
returns c = eq_tells _ _ _ (rest_end _ _ _ _ _ _ c.loop-i-test.false c.loop-i.invariant)
