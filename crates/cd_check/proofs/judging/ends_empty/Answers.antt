use Rattle.std.proofs.Common.{sym}
use Rattle.cd_check.proofs.Pieces.{last_to, last_from}
use Rattle.cd_check.proofs.judging.ends_empty.Goals as goal

pub returns-in-Some : goal.returns-in-Some
returns-in-Some c =
    (λ t. last_to c.args.clauses.now c.in-Some.clause.now (sym c.in-Some.ensures) (c.is_empty.ensures.0 t), λ e. c.is_empty.ensures.1 (last_from c.args.clauses.now c.in-Some.clause.now (sym c.in-Some.ensures) e))
