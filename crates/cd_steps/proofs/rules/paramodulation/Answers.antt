use Rattle.cd_steps.proofs.Drafting.{paramodulation_from}
use Rattle.cd_steps.proofs.rules.paramodulation.Goals as goal

pub returns : goal.returns
returns c = paramodulation_from c.args.a.now c.args.i c.args.s c.args.b.now c.args.j c.args.path.now _ c.replacement.ensures
