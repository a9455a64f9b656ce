use Rattle.std.proofs.Common.{refl, subst, sym}
use Rattle.cd_clause.specs.Tidiness.{IsClearFrom}
use Rattle.cd_clause.proofs.TidiedLemmas.{answer_ground, answer_none, answer_differs, answer_passed, passed_more}
use Rattle.cd_clause.proofs.tidiness.is_tidied_to.Goals as goal

pub are_alike-requires-clause-rest : goal.are_alike-requires-clause-rest
are_alike-requires-clause-rest c = subst (IsClearFrom c.args.clear) (sym c.as_slice-literals.ensures) c.requires.rest

pub beside_kept-requires-clause-rest : goal.beside_kept-requires-clause-rest
beside_kept-requires-clause-rest c = subst (IsClearFrom c.args.clear) (sym c.as_slice-literals.ensures) c.requires.rest

pub are_alike-requires-in-loop-n-clause-rest : goal.are_alike-requires-in-loop-n-clause-rest
are_alike-requires-in-loop-n-clause-rest c = subst (IsClearFrom c.args.clear) (sym c.as_slice-literals.ensures) c.requires.rest

pub returns-then-count-eq0 : goal.returns-then-count-eq0
returns-then-count-eq0 c =
    answer_ground c.args.c.now c.args.d.now _ _ _ _ c.as_slice-literals.ensures c.as_slice-others.ensures c.variables-count.ensures
    c.if-count-eq0.true c.are_alike.ensures

pub returns-in_default : goal.returns-in_default
returns-in_default c =
    answer_none c.args.c.now c.args.d.now _ _ _ _ c.as_slice-literals.ensures c.as_slice-others.ensures c.variables-count.ensures
    c.loop-n-test.true c.in_default.ensures

pub returns-then-not-are_alike : goal.returns-then-not-are_alike
returns-then-not-are_alike c =
    answer_differs c.args.c.now c.args.d.now _ _ _ _ _ c.as_slice-literals.ensures c.as_slice-others.ensures c.variables-count.ensures
    c.loop-n-test.true c.in-Some.ensures c.if-not-are_alike.ensures

pub loop-n-preserved : goal.loop-n-preserved
loop-n-preserved c = passed_more _ _ _ _ c.loop-n.invariant c.in-Some.ensures (c.if-not-are_alike.ensures.0 refl)

pub returns : goal.returns
returns c =
    answer_passed c.args.c.now c.args.d.now _ _ _ _ c.as_slice-literals.ensures c.as_slice-others.ensures c.variables-count.ensures
    c.if-count-eq0.false c.loop-n-test.false c.loop-n.invariant
