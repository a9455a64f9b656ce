use Rattle.std.proofs.Common.{◌+◌, map, refl, ap, Err, arith}
use Rattle.cd_unify.specs.Unifiers.{raised, IsMgu, HaveNoUnifier}
use Rattle.cd_steps.specs.Drafts.{inference_of}
use Rattle.cd_unify.proofs.TermLemmas.{at_none, at_some}
use Rattle.cd_steps.proofs.Bounding.{raised_bounds}
use Rattle.cd_infer.proofs.Giving.{no_clash, not_unified, unifier_from, unifier_to}
use Rattle.cd_infer.proofs.concluding.conclude.Goals as goal

pub returns-then-all_clash : goal.returns-then-all_clash
returns-then-all_clash c = no_clash c.args.draft.now (c.if-all_clash.ensures refl)

pub returns-in-Err : goal.returns-in-Err
returns-in-Err c =
    let d = c.args.draft.now in
    not_unified (inference_of d) (d.up + d.more) d.left.now (map (raised d.up) d.right.now) c.in-Err.fault refl refl refl (λ e. c.in-Err.ensures.out_of_bounds (ap Err e))

pub returns-in-Ok-None : goal.returns-in-Ok-None
returns-in-Ok-None c =
    let d = c.args.draft.now in
    unifier_from (inference_of d) d.left.now (map (raised d.up) d.right.now) refl refl
    (at_none c.in-Ok-None.field-0 (HaveNoUnifier d.left.now (map (raised d.up) d.right.now)) (IsMgu (d.up + d.more) d.left.now (map (raised d.up) d.right.now)) c.in-Ok-None.ensures.answer c.in-Ok-None.field-0-is)

pub finish-requires-clause-unifier : goal.finish-requires-clause-unifier
finish-requires-clause-unifier c =
    let d = c.args.draft.now in
    unifier_to (inference_of d) (d.up + d.more) d.left.now (map (raised d.up) d.right.now) c.in-Ok-Some.subst refl refl refl
    (at_some c.in-Ok-Some.field-0 c.in-Ok-Some.subst (HaveNoUnifier d.left.now (map (raised d.up) d.right.now)) (IsMgu (d.up + d.more) d.left.now (map (raised d.up) d.right.now)) c.in-Ok-Some.ensures.answer c.in-Ok-Some.field-0-is)

pub mgu_apart-requires-clause-left : goal.mgu_apart-requires-clause-left
mgu_apart-requires-clause-left c = c.requires.below.left

pub mgu_apart-requires-clause-right : goal.mgu_apart-requires-clause-right
mgu_apart-requires-clause-right c = let d = c.args.draft.now in omega (arith, raised_bounds d.up d.right.now, c.requires.below.right)
