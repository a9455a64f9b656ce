use Rattle.cd_check.proofs.Accepting.{refutations_are_accepted}
use Rattle.cd_check.proofs.laws.refutations_are_accepted.Goals as goal

pub returns : goal.returns
returns c = refutations_are_accepted
