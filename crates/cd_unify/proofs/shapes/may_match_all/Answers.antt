use Rattle.std.proofs.Common.{arith}
use Rattle.cd_term.specs.Terms.{substituted}
use Rattle.cd_unify.proofs.Binding.{item_becomes}
use Rattle.cd_unify.proofs.shapes.may_match_all.Goals as goal

pub returns-then-not-may_match : goal.returns-then-not-may_match
returns-then-not-may_match c = λ _ g is.
    c.may_match.ensures c.if-not-may_match.true g
    (item_becomes (substituted g) c.args.general.now c.args.special.now c.loop-i.i c.index-general-i.result c.index-special-i.result
    c.loop-i-test.true (omega arith) c.index-general-i.is c.index-special-i.is is)
