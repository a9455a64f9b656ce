use Rattle.std.proofs.Common.{sym}
use Rattle.cd_infer.specs.Conclusions.{IsUsable}
use Rattle.cd_acts.proofs.Names.{look_at, look_others, usable_only}
use Rattle.cd_acts.proofs.state.State.look.Goals as goal

pub returns-in-None-clause-entry : goal.returns-in-None-clause-entry
returns-in-None-clause-entry c = sym (look_others c.args.n c.args.self.now.known c.in-None.ensures)

pub returns-in-Some-clause-entry : goal.returns-in-Some-clause-entry
returns-in-Some-clause-entry c = sym (look_at c.args.n c.args.self.now.known c.in-Some.found.0 c.in-Some.found.1.now c.in-Some.ensures)

pub returns-in-Some-clause-usable : goal.returns-in-Some-clause-usable
returns-in-Some-clause-usable c = usable_only (λ e. IsUsable e.entry.clause) c.args.n c.args.self.now.known c.in-Some.found.0 c.in-Some.found.1.now c.requires.sensible.usable c.in-Some.ensures
