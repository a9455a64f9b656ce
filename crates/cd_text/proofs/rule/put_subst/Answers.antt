use Rattle.std.proofs.Common.{codes}
use Rattle.cd_text.proofs.Fronts.{on_err, adds_first}
use Rattle.cd_text.proofs.rule.put_subst.Goals as goal

pub returns-in_err-put_bytes-clause-front : goal.returns-in_err-put_bytes-clause-front
returns-in_err-put_bytes-clause-front c = on_err c.from_residual.result (adds_first _ _ (codes "),subst([") _ c.in_err-put_bytes.ensures.front)
