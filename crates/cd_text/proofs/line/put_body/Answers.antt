use Rattle.std.proofs.Common.{codes}
use Rattle.cd_text.specs.Texts.{clause_text, source_text}
use Rattle.std.proofs.lemmas.Result.{on_err_weaker}
use Rattle.cd_text.proofs.Fronts.{on_err, adds_first, adds_behind}
use Rattle.cd_text.proofs.line.put_body.Goals as goal

pub returns-in_err-clause_text-clause-front : goal.returns-in_err-clause_text-clause-front
returns-in_err-clause_text-clause-front c =
    on_err c.from_residual.result
    (adds_first _ _ (clause_text c.args.symbols.now c.args.line.now.clause) _ c.in_err-clause_text.ensures.front)

pub returns-in_err-put_bytes-clause-front : goal.returns-in_err-put_bytes-clause-front
returns-in_err-put_bytes-clause-front c =
    on_err c.from_residual-in_err-put_bytes.result
    (adds_behind _ _ _ (clause_text c.args.symbols.now c.args.line.now.clause) _ c.in_ok-clause_text.ensures.text
    (adds_first _ _ (codes ",") _ c.in_err-put_bytes.ensures.front))

pub returns-in_err-put_source-clause-front : goal.returns-in_err-put_source-clause-front
returns-in_err-put_source-clause-front c =
    on_err c.from_residual-in_err-put_source.result
    (adds_behind _ _ _ (clause_text c.args.symbols.now c.args.line.now.clause) _ c.in_ok-clause_text.ensures.text
    (adds_behind _ _ _ (codes ",") _ c.in_ok-put_bytes.ensures.text
    (adds_first _ _ (source_text c.args.symbols.now c.args.line.now.source) _ c.in_err-put_source.ensures.front)))

pub returns-clause-front : goal.returns-clause-front
returns-clause-front c =
    on_err_weaker c.put_bytes-2.result
    (λ h. adds_behind _ _ _ (clause_text c.args.symbols.now c.args.line.now.clause) _ c.in_ok-clause_text.ensures.text
    (adds_behind _ _ _ (codes ",") _ c.in_ok-put_bytes.ensures.text
    (adds_behind _ _ _ (source_text c.args.symbols.now c.args.line.now.source) _ c.in_ok-put_source.ensures.text
    h)))
    c.put_bytes-2.ensures.front
