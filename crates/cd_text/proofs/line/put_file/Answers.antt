use Rattle.std.proofs.Common.{codes}
use Rattle.cd_text.specs.Texts.{quoted, label_text}
use Rattle.std.proofs.lemmas.Result.{on_err_weaker}
use Rattle.cd_text.proofs.Fronts.{on_err, adds_first, adds_behind}
use Rattle.cd_text.proofs.line.put_file.Goals as goal

pub returns-in_err-put_bytes-clause-front : goal.returns-in_err-put_bytes-clause-front
returns-in_err-put_bytes-clause-front c =
    on_err c.from_residual.result
    (adds_first _ _ (codes "file(") _ c.in_err-put_bytes.ensures.front)

pub returns-in_err-put_quoted-clause-front : goal.returns-in_err-put_quoted-clause-front
returns-in_err-put_quoted-clause-front c =
    on_err c.from_residual-in_err-put_quoted.result
    (adds_behind _ _ _ (codes "file(") _ c.in_ok-put_bytes.ensures.text
    (adds_first _ _ (quoted c.args.path.now) _ c.in_err-put_quoted.ensures.front))

pub returns-in_err-put_bytes-2-clause-front : goal.returns-in_err-put_bytes-2-clause-front
returns-in_err-put_bytes-2-clause-front c =
    on_err c.from_residual-in_err-put_bytes-2.result
    (adds_behind _ _ _ (codes "file(") _ c.in_ok-put_bytes.ensures.text
    (adds_behind _ _ _ (quoted c.args.path.now) _ c.in_ok-put_quoted.ensures.text
    (adds_first _ _ (codes ",") _ c.in_err-put_bytes-2.ensures.front)))

pub returns-in_err-put_label-clause-front : goal.returns-in_err-put_label-clause-front
returns-in_err-put_label-clause-front c =
    on_err c.from_residual-in_err-put_label.result
    (adds_behind _ _ _ (codes "file(") _ c.in_ok-put_bytes.ensures.text
    (adds_behind _ _ _ (quoted c.args.path.now) _ c.in_ok-put_quoted.ensures.text
    (adds_behind _ _ _ (codes ",") _ c.in_ok-put_bytes-2.ensures.text
    (adds_first _ _ (label_text c.args.label.now) _ c.in_err-put_label.ensures.front))))

pub returns-clause-front : goal.returns-clause-front
returns-clause-front c =
    on_err_weaker c.put_bytes-3.result
    (λ h. adds_behind _ _ _ (codes "file(") _ c.in_ok-put_bytes.ensures.text
    (adds_behind _ _ _ (quoted c.args.path.now) _ c.in_ok-put_quoted.ensures.text
    (adds_behind _ _ _ (codes ",") _ c.in_ok-put_bytes-2.ensures.text
    (adds_behind _ _ _ (label_text c.args.label.now) _ c.in_ok-put_label.ensures.text
    h))))
    c.put_bytes-3.ensures.front
