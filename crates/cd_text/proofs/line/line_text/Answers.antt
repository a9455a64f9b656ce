use Rattle.std.proofs.Common.{codes}
use Rattle.cd_text.specs.Texts.{line_text, name_text, role_text}
use Rattle.std.proofs.lemmas.Result.{on_err_weaker}
use Rattle.cd_text.proofs.Fronts.{on_err, adds_first, adds_behind}
use Rattle.cd_text.proofs.line.line_text.Goals as goal

pub returns-in_err-put_bytes-clause-front : goal.returns-in_err-put_bytes-clause-front
unfolding line_text
returns-in_err-put_bytes-clause-front c =
    on_err c.from_residual.result
    (adds_first _ _ (codes "cnf(") _ c.in_err-put_bytes.ensures.front)

pub returns-in_err-put_name-clause-front : goal.returns-in_err-put_name-clause-front
unfolding line_text
returns-in_err-put_name-clause-front c =
    on_err c.from_residual-in_err-put_name.result
    (adds_behind _ _ _ (codes "cnf(") _ c.in_ok-put_bytes.ensures.text
    (adds_first _ _ (name_text c.args.line.now.number) _ c.in_err-put_name.ensures.front))

pub returns-in_err-put_bytes-2-clause-front : goal.returns-in_err-put_bytes-2-clause-front
unfolding line_text
returns-in_err-put_bytes-2-clause-front c =
    on_err c.from_residual-in_err-put_bytes-2.result
    (adds_behind _ _ _ (codes "cnf(") _ c.in_ok-put_bytes.ensures.text
    (adds_behind _ _ _ (name_text c.args.line.now.number) _ c.in_ok-put_name.ensures.text
    (adds_first _ _ (codes ",") _ c.in_err-put_bytes-2.ensures.front)))

pub returns-in_err-put_role-clause-front : goal.returns-in_err-put_role-clause-front
unfolding line_text
returns-in_err-put_role-clause-front c =
    on_err c.from_residual-in_err-put_role.result
    (adds_behind _ _ _ (codes "cnf(") _ c.in_ok-put_bytes.ensures.text
    (adds_behind _ _ _ (name_text c.args.line.now.number) _ c.in_ok-put_name.ensures.text
    (adds_behind _ _ _ (codes ",") _ c.in_ok-put_bytes-2.ensures.text
    (adds_first _ _ (role_text c.args.line.now.role) _ c.in_err-put_role.ensures.front))))

pub returns-in_err-put_bytes-3-clause-front : goal.returns-in_err-put_bytes-3-clause-front
unfolding line_text
returns-in_err-put_bytes-3-clause-front c =
    on_err c.from_residual-in_err-put_bytes-3.result
    (adds_behind _ _ _ (codes "cnf(") _ c.in_ok-put_bytes.ensures.text
    (adds_behind _ _ _ (name_text c.args.line.now.number) _ c.in_ok-put_name.ensures.text
    (adds_behind _ _ _ (codes ",") _ c.in_ok-put_bytes-2.ensures.text
    (adds_behind _ _ _ (role_text c.args.line.now.role) _ c.in_ok-put_role.ensures.text
    (adds_first _ _ (codes ",") _ c.in_err-put_bytes-3.ensures.front)))))

pub returns-clause-front : goal.returns-clause-front
unfolding line_text
returns-clause-front c =
    on_err_weaker c.put_body.result
    (λ h. adds_behind _ _ _ (codes "cnf(") _ c.in_ok-put_bytes.ensures.text
    (adds_behind _ _ _ (name_text c.args.line.now.number) _ c.in_ok-put_name.ensures.text
    (adds_behind _ _ _ (codes ",") _ c.in_ok-put_bytes-2.ensures.text
    (adds_behind _ _ _ (role_text c.args.line.now.role) _ c.in_ok-put_role.ensures.text
    (adds_behind _ _ _ (codes ",") _ c.in_ok-put_bytes-3.ensures.text
    h)))))
    c.put_body.ensures.front
