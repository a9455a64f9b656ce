use Rattle.std.specs.Option.{option_copied}
use Rattle.cd_fineness.proofs.Replaying.{outside_none}
use Rattle.cd_fineness.proofs.fineness.result_within.Goals as goal

pub returns-in-Err-OutOfBounds : goal.returns-in-Err-OutOfBounds
returns-in-Err-OutOfBounds c =
    outside_none c.steps.ensures.one c.args.step.now (option_copied c.args.first) (option_copied c.args.second) c.args.before c.result_of.result c.result_of.ensures (rw c.in-Err-OutOfBounds.field-0-is at c.in-Err-OutOfBounds.is)
