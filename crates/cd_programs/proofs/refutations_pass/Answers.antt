use Rattle.cd_programs.proofs.Printed.{refutation_passes}
use Rattle.cd_programs.proofs.refutations_pass.Goals as goal

pub returns : goal.returns
returns c = refutation_passes c.accepted_texts_pass.ensures
