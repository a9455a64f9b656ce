use Rattle.std.proofs.Common.{codes}
use Rattle.cd_text.specs.Texts.{rule_text, separated, name_text}
use Rattle.std.proofs.lemmas.Result.{on_err_weaker}
use Rattle.cd_text.proofs.Fronts.{on_err, adds_first, adds_behind}
use Rattle.cd_text.proofs.line.put_inference.Goals as goal

pub returns-in_err-put_bytes-clause-front : goal.returns-in_err-put_bytes-clause-front
returns-in_err-put_bytes-clause-front c =
    on_err c.from_residual.result
    (adds_first _ _ (codes "inference(") _ c.in_err-put_bytes.ensures.front)

pub returns-in_err-put_rule-clause-front : goal.returns-in_err-put_rule-clause-front
returns-in_err-put_rule-clause-front c =
    on_err c.from_residual-in_err-put_rule.result
    (adds_behind _ _ _ (codes "inference(") _ c.in_ok-put_bytes.ensures.text
    (adds_first _ _ (rule_text c.args.symbols.now c.args.step.now) _ c.in_err-put_rule.ensures.front))

pub returns-in_err-put_bytes-2-clause-front : goal.returns-in_err-put_bytes-2-clause-front
returns-in_err-put_bytes-2-clause-front c =
    on_err c.from_residual-in_err-put_bytes-2.result
    (adds_behind _ _ _ (codes "inference(") _ c.in_ok-put_bytes.ensures.text
    (adds_behind _ _ _ (rule_text c.args.symbols.now c.args.step.now) _ c.in_ok-put_rule.ensures.text
    (adds_first _ _ (codes ",[") _ c.in_err-put_bytes-2.ensures.front)))

pub returns-in_err-put_parents-clause-front : goal.returns-in_err-put_parents-clause-front
returns-in_err-put_parents-clause-front c =
    on_err c.from_residual-in_err-put_parents.result
    (adds_behind _ _ _ (codes "inference(") _ c.in_ok-put_bytes.ensures.text
    (adds_behind _ _ _ (rule_text c.args.symbols.now c.args.step.now) _ c.in_ok-put_rule.ensures.text
    (adds_behind _ _ _ (codes ",[") _ c.in_ok-put_bytes-2.ensures.text
    (adds_first _ _ (separated (codes ",") name_text c.args.parents.now) _ c.in_err-put_parents.ensures.front))))

pub returns-clause-front : goal.returns-clause-front
returns-clause-front c =
    on_err_weaker c.put_bytes-3.result
    (λ h. adds_behind _ _ _ (codes "inference(") _ c.in_ok-put_bytes.ensures.text
    (adds_behind _ _ _ (rule_text c.args.symbols.now c.args.step.now) _ c.in_ok-put_rule.ensures.text
    (adds_behind _ _ _ (codes ",[") _ c.in_ok-put_bytes-2.ensures.text
    (adds_behind _ _ _ (separated (codes ",") name_text c.args.parents.now) _ c.in_ok-put_parents.ensures.text
    h))))
    c.put_bytes-3.ensures.front
