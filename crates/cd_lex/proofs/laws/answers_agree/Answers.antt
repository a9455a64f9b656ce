use Rattle.cd_lex.proofs.NextLaws.{next_single}
use Rattle.cd_lex.proofs.laws.answers_agree.Goals as goal

pub returns : goal.returns
returns c = next_single
