use Rattle.cd_steps.proofs.Drafting.{no_rewriting}
use Rattle.cd_steps.proofs.rules.rewriting.Goals as goal

pub returns-in_default : goal.returns-in_default
returns-in_default c = no_rewriting c.args.e.now c.args.s c.args.c.now c.args.j c.args.path.now c.in_default.ensures
