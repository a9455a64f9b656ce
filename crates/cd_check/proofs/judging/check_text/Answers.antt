use Rattle.std.proofs.lemmas.Result.{IfOk-weaker}
use Rattle.cd_check.proofs.Verdicts.{judged_judges, verdicts_are_one}
use Rattle.cd_check.proofs.judging.check_text.Goals as goal

pub returns-clause-judges : goal.returns-clause-judges
returns-clause-judges c = IfOk-weaker c.judge_text.result _ _ (λ v j. judged_judges c.args.problem.now c.args.text.now v j) c.judge_text.ensures

pub returns-clause-only : goal.returns-clause-only
returns-clause-only c =
    IfOk-weaker c.judge_text.result _ _
    (λ v j w k. verdicts_are_one c.args.problem.now c.args.text.now w v c.requires.bounded.distinct c.requires.formed.texts k (judged_judges c.args.problem.now c.args.text.now v j)) c.judge_text.ensures
