use Rattle.cd_contract.specs.Marks.{Marked}
use Rattle.cd_contract.proofs.Needing.{neither, reducer_needs}
use Rattle.cd_contract.proofs.needs.Needs.may_reduce.Goals as goal

pub returns-else-left : goal.returns-else-left
returns-else-left c = λ out o d e needs sought by.
    neither _ _ (Marked c.args.marks.now c.args.self.now.left) (Marked c.args.marks.now c.args.self.now.right) c.has-left.ensures c.has-right.ensures c.if-left.false out
    (reducer_needs (Marked c.args.marks.now) o d e c.args.self.now needs sought by)
