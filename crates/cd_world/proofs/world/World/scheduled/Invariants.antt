use Rattle.std.proofs.Common.{◌-◌, ◌^◌, length}
use Rattle.cd_world.specs.Schedule.{Going}
use Rattle.cd_world.proofs.world.World.scheduled.Given as goal

abbrev pub invariant-loop-generator : goal.invariant-loop-generator
invariant-loop-generator l = Going l.fn.self l.self l.fn.seed l.generator.state l.counter

-- every draw lists an event, and the order lists fewer than 2^62
abbrev pub decreases-loop-generator : goal.decreases-loop-generator
decreases-loop-generator l = 2 ^ 62 - length l.self.parts.order
