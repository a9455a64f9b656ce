use Rattle.std.proofs.lemmas.Result.{IfOk-weaker}
use Rattle.cd_check.proofs.Conditions.{judged}
use Rattle.cd_check.proofs.judging.judge.Goals as goal

pub returns-in-Some : goal.returns-in-Some
returns-in-Some c =
    IfOk-weaker c.judge_line.result _ _
    (λ j f. judged c.args.problem.now c.args.clauses.now c.args.piece.now c.in-Some.line j c.requires.bounded.distinct (record { formed = c.requires.formed; bounded = c.requires.bounded }) c.requires.few (rw c.in-Some.is at c.in_ok-read_exact.ensures.some) f) c.judge_line.ensures
