use Rattle.cd_steps.proofs.Giving.{tidied_outside}
use Rattle.cd_steps.proofs.tidied.Goals as goal

pub returns-in_default : goal.returns-in_default
returns-in_default c = tidied_outside c.args.clause.now c.in_default.ensures
