use Rattle.cd_contract.specs.Marks.{Marked}
use Rattle.cd_contract.proofs.Needing.{false_test, left_needed}
use Rattle.cd_contract.proofs.needs.Needs.may_reduce_left.Goals as goal

pub returns : goal.returns
returns c = λ out o d e needs sought at is by.
    false_test _ (Marked c.args.marks.now c.args.self.now.left) c.has.ensures out (left_needed (Marked c.args.marks.now) o d e c.args.self.now needs sought at is by)
