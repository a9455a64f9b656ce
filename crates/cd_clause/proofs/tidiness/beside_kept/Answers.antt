use Rattle.std.proofs.Common.{Some, None, arith, refl, subst, sym}
use Rattle.std.proofs.lemmas.Bool.{false≢true}
use Rattle.cd_clause.proofs.AlikeLemmas.{left_out, left_out_is, IsBesideAtom, remains_skip, remains_next, remains_found, remains_over, remains_end}
use Rattle.cd_clause.proofs.tidiness.beside_kept.Goals as goal

pub loop-i-preserved-then-is_left_out : goal.loop-i-preserved-then-is_left_out
loop-i-preserved-then-is_left_out c =
    remains_skip _ c.args.literals.now c.args.others.now _ _ _ _ c.loop-i-test.true c.index-literals-i.is refl
    (left_out_is _ _ _ c.loop-i-test.true c.index-literals-i.is (c.if-is_left_out.ensures.0 refl)) c.loop-i.invariant

pub returns-then-j-others : goal.returns-then-j-others
returns-then-j-others c =
    remains_over _ c.args.literals.now c.args.others.now _ _ _ _ c.loop-i-test.true c.index-literals-i.is refl
    (λ out. false≢true (c.if-is_left_out.ensures.1 (left_out _ _ _ c.loop-i-test.true c.index-literals-i.is out))) c.if-j-others.true c.loop-i.invariant

pub returns-in-Some : goal.returns-in-Some
returns-in-Some c =
    remains_found _ _ c.args.literals.now c.args.others.now _ _ _ c.index-literals-i.result c.index-others-j.result c.loop-i-test.true c.index-literals-i.is refl
    (λ out. false≢true (c.if-is_left_out.ensures.1 (left_out _ _ _ c.loop-i-test.true c.index-literals-i.is out))) (omega (arith, c.loop-i.invariant.0, c.if-j-others.false)) c.index-others-j.is
    (subst (λ m. IsBesideAtom c.args.n c.index-literals-i.result m (Some c.in-Some.k)) (sym c.index-others-j.is) c.in-Some.ensures) c.loop-i.invariant

pub loop-i-preserved : goal.loop-i-preserved
loop-i-preserved c =
    remains_next _ c.args.literals.now c.args.others.now _ _ _ c.index-literals-i.result c.index-others-j.result c.loop-i-test.true c.index-literals-i.is refl
    (λ out. false≢true (c.if-is_left_out.ensures.1 (left_out _ _ _ c.loop-i-test.true c.index-literals-i.is out))) (omega (arith, c.loop-i.invariant.0, c.if-j-others.false)) c.index-others-j.is
    (subst (λ m. IsBesideAtom c.args.n c.index-literals-i.result m None) (sym c.index-others-j.is) c.in_default.ensures) c.loop-i.invariant

pub returns : goal.returns
returns c = remains_end _ _ _ _ _ c.loop-i-test.false c.loop-i.invariant
