use Rattle.cd_contract.proofs.Counting.{most_equation}
use Rattle.cd_contract.proofs.tally.most_of_atom.Goals as goal

pub returns-in-Equal : goal.returns-in-Equal
returns-in-Equal c = most_equation c.args.a.now c.in-Equal.s c.in-Equal.t c.most.result c.in-Equal.is (c.most.ensures _ _ c.of_term.ensures c.of_term-in-Equal.ensures)
