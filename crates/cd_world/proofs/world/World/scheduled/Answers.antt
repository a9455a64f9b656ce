use Rattle.std.proofs.Common.{Bool, subst}
use Rattle.cd_world.specs.Schedule.{VerdictTest}
use Rattle.cd_world.proofs.Picks.{going_on, none_runs}
use Rattle.cd_world.proofs.world.World.scheduled.Goals as goal

pub pick-requires-clause-running : goal.pick-requires-clause-running
pick-requires-clause-running c =
    none_runs c.loop-generator.self (subst (λ (b : Bool). VerdictTest b c.loop-generator.self.parts.peers) c.loop-generator-test.true c.has_verdict.ensures)

pub loop-generator-preserved : goal.loop-generator-preserved
loop-generator-preserved c =
    going_on c.args.self.now c.loop-generator.self c.pick.new.self c.args.seed c.loop-generator.generator.state c.pick.new.generator.state c.loop-generator.counter c.in_ok-counter.counter c.loop-generator.invariant c.in_ok-counter.ensures.ok
