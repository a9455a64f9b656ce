use Rattle.cd_check.proofs.Cuts.{comment_passed}
use Rattle.cd_check.proofs.laws.comments_are_passed_over.Goals as goal

pub returns : goal.returns
returns c = comment_passed
