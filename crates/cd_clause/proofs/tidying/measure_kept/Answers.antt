use Rattle.std.proofs.Common.{refl, take}
use Rattle.std.proofs.lemmas.Bool.{false≢true}
use Rattle.cd_clause.proofs.TidyMeasures.{begins_none, begins_skip, begins_more, begins_outside, begins_all}
use Rattle.cd_clause.proofs.tidying.measure_kept.Goals as goal

pub loop-i-init : goal.loop-i-init
loop-i-init c = begins_none c.args.literals.now

pub loop-i-preserved-then-is_superfluous : goal.loop-i-preserved-then-is_superfluous
loop-i-preserved-then-is_superfluous c =
    begins_skip c.args.literals.now (take c.loop-i.i c.args.literals.now) c.loop-i.i c.loop-i.total _ c.loop-i-test.true c.index-literals-i.is refl (c.if-is_superfluous.ensures.0 refl) c.loop-i.invariant

pub loop-i-preserved : goal.loop-i-preserved
loop-i-preserved c =
    begins_more c.args.literals.now (take c.loop-i.i c.args.literals.now) c.loop-i.i c.loop-i.total _ c.loop-i-test.true c.index-literals-i.is refl c.in-Some.more _ _ c.as_slice.ensures refl
    (λ out. false≢true (c.if-is_superfluous.ensures.1 out)) c.in-Some.ensures c.loop-i.invariant

pub returns-in_default : goal.returns-in_default
returns-in_default c =
    begins_outside c.args.literals.now (take c.loop-i.i c.args.literals.now) c.loop-i.i c.loop-i.total _ c.loop-i-test.true c.index-literals-i.is refl _ _ c.as_slice.ensures refl
    (λ out. false≢true (c.if-is_superfluous.ensures.1 out)) c.in_default.ensures c.loop-i.invariant

pub returns : goal.returns
returns c = begins_all c.args.literals.now _ _ c.loop-i-test.false c.loop-i.invariant
