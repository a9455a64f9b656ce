use Rattle.std.proofs.Common.{refl}
use Rattle.cd_subsume.proofs.Goals.{goals_start, goals_next, goals_end}
use Rattle.cd_subsume.proofs.Becoming.{no_picks}
use Rattle.cd_subsume.proofs.partners.goals_of.Goals as goal

pub loop-literal-init : goal.loop-literal-init
loop-literal-init c = goals_start _ _ c.new-goals.ensures.items

pub returns-then-partners-eq0 : goal.returns-then-partners-eq0
returns-then-partners-eq0 c =
    no_picks c.args.ls.now c.args.ms.now c.loop-literal.literal c.index-ls-literal.result c.loop-literal-test.true c.index-ls-literal.is
    (c.partners-partners.ensures c.if-partners-eq0.true)

pub loop-literal-preserved : goal.loop-literal-preserved
loop-literal-preserved c =
    goals_next _ _ _ _ _ c.loop-literal.invariant c.in_ok-push.ensures.items refl c.loop-literal-test.true

pub returns : goal.returns
returns c = goals_end _ _ _ c.loop-literal.invariant c.loop-literal-test.false c.loop-literal.auto.literal-end
