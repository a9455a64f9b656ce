use Rattle.std.proofs.Common.{◌∙◌, ◌++◌, ◌<◌, ◌^◌, ap, subst, ℕ, List, rules}
use Rattle.std.proofs.lemmas.Result.{on_ok_weaker, on_err_weaker}
use Rattle.cd_text.specs.Fronts.{AddsFront}
use Rattle.cd_text.proofs.Numerals.{numeral_is}
use Rattle.cd_text.proofs.words.put_number.Goals as goal

pub returns-clause-text : goal.returns-clause-text
returns-clause-text c =
    let small : c.args.n < 2 ^ 64 = search rules in
    on_ok_weaker c.put_decimal.result (λ put. put ∙ ap (λ (l : List ℕ). c.args.into.now ++ l) (numeral_is c.args.n small)) c.put_decimal.ensures.text

pub returns-clause-front : goal.returns-clause-front
returns-clause-front c =
    let small : c.args.n < 2 ^ 64 = search rules in
    on_err_weaker c.put_decimal.result (subst (AddsFront c.args.into.now c.put_decimal.new.into) (numeral_is c.args.n small)) c.put_decimal.ensures.front
