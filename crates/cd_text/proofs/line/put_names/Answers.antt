use Rattle.std.proofs.Common.{codes, sym, subst}
use Rattle.std.proofs.lemmas.Result.{on_err_weaker}
use Rattle.cd_text.specs.Fronts.{AddsFront}
use Rattle.cd_text.specs.Texts.{name_text}
use Rattle.cd_text.proofs.Fronts.{on_err, adds_first, adds_behind}
use Rattle.cd_text.proofs.Separated.{separated_first}
use Rattle.cd_text.proofs.line.put_names.Goals as goal

pub returns-in_err-put_name-clause-front : goal.returns-in_err-put_name-clause-front
returns-in_err-put_name-clause-front c =
    on_err c.from_residual.result
    (subst (AddsFront c.args.into.now c.put_name.new.into) (sym (separated_first (codes ",") name_text c.args.first c.args.others.now))
    (adds_first _ _ (name_text c.args.first) _ c.in_err-put_name.ensures.front))

pub returns-clause-front : goal.returns-clause-front
returns-clause-front c =
    on_err_weaker c.put_further.result
    (λ h. subst (AddsFront c.args.into.now c.put_further.new.into) (sym (separated_first (codes ",") name_text c.args.first c.args.others.now))
    (adds_behind _ _ _ (name_text c.args.first) _ c.in_ok-put_name.ensures.text h))
    c.put_further.ensures.front
