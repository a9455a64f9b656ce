use Rattle.std.proofs.Common.{refl}
use Rattle.cd_steps.proofs.Planning.{standing_gives, unchanged}
use Rattle.cd_steps.proofs.standing.Goals as goal

pub returns : goal.returns
returns c = standing_gives _ c.args.c.now refl refl refl refl (unchanged c.args.c.now c.as_slice.result.now c.as_slice.ensures)
