use Rattle.cd_contract.specs.Marks.{BrieflyMarked}
use Rattle.cd_contract.proofs.Needing.{false_test, left_needed, right_needed}
use Rattle.cd_contract.proofs.needs.Needs.strike_sides.Goals as goal

pub returns-clause-left : goal.returns-clause-left
returns-clause-left c = λ out o d e needs sought at is by.
    false_test _ (BrieflyMarked c.args.marks.now c.args.self.now.left) c.has.ensures out (left_needed (BrieflyMarked c.args.marks.now) o d e c.args.self.now needs sought at is by)

pub returns-clause-right : goal.returns-clause-right
returns-clause-right c = λ out o d e needs sought at is by.
    false_test _ (BrieflyMarked c.args.marks.now c.args.self.now.right) c.has-2.ensures out (right_needed (BrieflyMarked c.args.marks.now) o d e c.args.self.now needs sought at is by)
