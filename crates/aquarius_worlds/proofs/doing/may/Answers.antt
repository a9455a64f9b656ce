use Rattle.std.proofs.Common.{subst, sym}
use Rattle.cd_world.specs.Worlds.{MayStep}
use Rattle.aquarius_worlds.proofs.doing.may.Goals as goal

pub returns-in-Turn : goal.returns-in-Turn
returns-in-Turn c = λ yes. subst (λ choice. MayStep c.args.world.now.parts choice) (sym c.in-Turn.is) (c.may_peer.ensures yes)
