use Rattle.cd_subsume.proofs.TidyForms.{tidy_subsumes}
use Rattle.cd_subsume.proofs.laws.tidy_forms.Goals as goal

pub returns : goal.returns
returns c = tidy_subsumes
