use Rattle.std.specs.Option.{option_copied}
use Rattle.cd_fineness.proofs.Replaying.{standing_none, standing_some}
use Rattle.cd_fineness.proofs.fineness.standing.Goals as goal

pub returns-in-None-entry_in : goal.returns-in-None-entry_in
returns-in-None-entry_in c = standing_none c.args.problem.now c.args.known.now (option_copied c.args.current) c.args.premise c.in-Named.n c.in-Named.is c.in-None-entry_in.ensures

pub returns-in-Some-entry_in : goal.returns-in-Some-entry_in
returns-in-Some-entry_in c =
    standing_some c.args.problem.now c.args.known.now (option_copied c.args.current) c.args.premise c.in-Named.n c.in-Some-entry_in.found.0 c.in-Some-entry_in.found.1.now c.in-Named.is c.in-Some-entry_in.ensures
