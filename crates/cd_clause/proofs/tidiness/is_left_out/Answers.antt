use Rattle.cd_clause.proofs.AlikeLemmas.{past_clear}
use Rattle.cd_clause.proofs.tidiness.is_left_out.Goals as goal

pub returns-else-i-clear : goal.returns-else-i-clear
returns-else-i-clear c = past_clear _ _ _ c.if-i-clear.false c.requires.rest
