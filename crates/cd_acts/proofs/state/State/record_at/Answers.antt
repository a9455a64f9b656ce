use Rattle.std.proofs.Common.{sym}
use Rattle.cd_infer.specs.Conclusions.{IsUsable}
use Rattle.cd_acts.proofs.Names.{recorded_at, recorded_others, usable_only}
use Rattle.cd_acts.proofs.state.State.record_at.Goals as goal

pub returns-in-None-clause-recorded : goal.returns-in-None-clause-recorded
returns-in-None-clause-recorded c = sym (recorded_others c.args.n c.args.self.now.known c.in-None.ensures)

pub returns-in-Some-clause-recorded : goal.returns-in-Some-clause-recorded
returns-in-Some-clause-recorded c = sym (recorded_at c.args.n c.args.self.now.known c.in-Some.found.0 c.in-Some.found.1.now c.in-Some.ensures)

pub returns-in-Some-clause-usable : goal.returns-in-Some-clause-usable
returns-in-Some-clause-usable c = usable_only (λ e. IsUsable e.entry.clause) c.args.n c.args.self.now.known c.in-Some.found.0 c.in-Some.found.1.now c.requires.sensible.usable c.in-Some.ensures
