use Rattle.std.proofs.Common.{sym}
use Rattle.cd_world.proofs.Picks.{all_length}
use Rattle.cd_world.proofs.choosing.offer_all.Goals as goal

pub returns-clause-deliveries : goal.returns-clause-deliveries
returns-clause-deliveries c = sym (all_length c.args.letters.now 0)
