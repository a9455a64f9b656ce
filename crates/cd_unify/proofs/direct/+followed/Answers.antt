use Rattle.std.proofs.Common.{arith}
use Rattle.cd_unify.proofs.DirectLemmas.{followed_on}
use Rattle.cd_unify.proofs.direct.+followed.Goals as goal

pub returns-in-Some : goal.returns-in-Some
returns-in-Some t c =
    followed_on c.args.values.now c.args.start c.in-Some.next c.followed.result c.in-Var.k _ c.in-Var.is (omega (arith, c.if-place-values.false)) c.in-Some.is c.followed.ensures
