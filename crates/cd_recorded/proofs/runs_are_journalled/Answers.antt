use Rattle.cd_recorded.proofs.Journals.{runs_are_journalled}
use Rattle.cd_recorded.proofs.runs_are_journalled.Goals as goal

pub returns : goal.returns
returns c = runs_are_journalled
