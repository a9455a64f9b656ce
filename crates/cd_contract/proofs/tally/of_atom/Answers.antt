use Rattle.cd_contract.proofs.Counting.{whole_predicate, whole_equation}
use Rattle.cd_contract.proofs.tally.of_atom.Goals as goal

pub returns-in-Pred : goal.returns-in-Pred
returns-in-Pred c =
    whole_predicate c.args.a.now c.in-Pred.p _ c.as_slice.result.now c.plus.result c.in-Pred.is c.as_slice.ensures (c.plus.ensures _ _ c.symbol.ensures c.of_several.ensures)

pub returns-in-Equal : goal.returns-in-Equal
returns-in-Equal c =
    whole_equation c.args.a.now c.in-Equal.s c.in-Equal.t c.plus-in-Equal.result c.in-Equal.is (c.plus-in-Equal.ensures _ _ c.of_term.ensures c.of_term-in-Equal.ensures)
