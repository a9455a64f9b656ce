use Rattle.std.proofs.Common.{sym}
use Rattle.cd_check.specs.Accepted.{clause_of_line}
use Rattle.cd_check.proofs.Rightness.{from_none}
use Rattle.cd_check.proofs.judging.is_right_from_one.Goals as goal

pub returns-in-None : goal.returns-in-None
returns-in-None c = from_none (clause_of_line c.args.clauses.now c.args.n) c.args.step.now c.args.conclusion.now c.in-None.ensures
