use Rattle.std.proofs.Common.{◌++◌, codes}
use Rattle.cd_text.specs.Texts.{numbers_text}
use Rattle.cd_text.proofs.Fronts.{on_err, adds_first, adds_behind, adds_within}
use Rattle.cd_text.proofs.rule.put_entries.Goals as goal

pub returns-in_err-put_front-clause-front : goal.returns-in_err-put_front-clause-front
returns-in_err-put_front-clause-front c =
    on_err c.from_residual.result
    (adds_within _ _ c.args.word.now (codes ",[status(thm),at(") _ (adds_first _ _ (c.args.word.now ++ codes ",[status(thm),at(") _ c.in_err-put_front.ensures.front))

pub returns-in_err-put_numbers-clause-front : goal.returns-in_err-put_numbers-clause-front
returns-in_err-put_numbers-clause-front c =
    on_err c.from_residual-in_err-put_numbers.result
    (adds_within _ _ c.args.word.now (codes ",[status(thm),at(") _
    (adds_behind _ _ _ (c.args.word.now ++ codes ",[status(thm),at(") _ c.in_ok-put_front.ensures.text
    (adds_first _ _ (numbers_text c.args.places.now) _ c.in_err-put_numbers.ensures.front)))
