use Rattle.cd_check.specs.Accepted.{clause_of_line}
use Rattle.cd_check.proofs.Rightness.{from_first_none, from_second_none}
use Rattle.cd_check.proofs.judging.is_right_from_two.Goals as goal

pub returns-in_default : goal.returns-in_default
returns-in_default c =
    from_first_none (clause_of_line c.args.clauses.now c.args.m) (clause_of_line c.args.clauses.now c.args.n) c.args.step.now c.args.conclusion.now c.in_default.ensures

pub returns-in_default-clause_of_line : goal.returns-in_default-clause_of_line
returns-in_default-clause_of_line c =
    from_second_none (clause_of_line c.args.clauses.now c.args.m) (clause_of_line c.args.clauses.now c.args.n) c.args.step.now c.args.conclusion.now c.in_default-clause_of_line.ensures
