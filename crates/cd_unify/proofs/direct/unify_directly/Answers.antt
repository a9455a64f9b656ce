use Rattle.std.proofs.Common.{map, subst}
use Rattle.cd_unify.specs.Unifiers.{raised}
use Rattle.cd_unify.specs.Direct.{bound_to, IsFinished}
use Rattle.cd_unify.proofs.DirectEnds.{refuted, unified, some_at}
use Rattle.cd_unify.proofs.direct.unify_directly.Goals as goal

pub returns-in-Apart : goal.returns-in-Apart
returns-in-Apart c =
    refuted (bound_to c.in_ok-values.values.items) (bound_to c.equate_all.new.values.items) c.args.left.now (map (raised c.args.up) c.args.right.now) c.equate_all.result
    c.in_ok-values.ensures.none c.equate_all.ensures.settles c.in-Apart.is

pub returns : goal.returns
returns c =
    unified c.args.vars (bound_to c.in_ok-values.values.items) (bound_to c.equate_all.new.values.items) c.args.left.now (map (raised c.args.up) c.args.right.now) c.in-Some.s c.equate_all.result
    c.in_ok-values.ensures.none c.equate_all.ensures.settles c.in-Equal.is
    (subst (λ vs. IsFinished c.args.vars (bound_to vs) c.in-Some.s) c.as_slice.ensures.value (some_at _ _ _ c.in_ok-finish-in-Equal.ensures c.in-Some.is))
    c.requires.left c.requires.right
